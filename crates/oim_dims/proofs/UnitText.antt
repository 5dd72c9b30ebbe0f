-- The text of a unit denotes that unit.
use Rattle.oim_dims.proofs.Shared.{◌≡◌, ◌≢◌, ℕ, ◌<◌, Bool, true, false, List, [], ◌∷◌, ◌++◌, length, length-append, map, refl, sym, ap, ◌∙◌, arith, Some, None, All, not, ◌==◌, if◌then◌else◌, and_parts, not-true, eqb-true, option_map_or, unwrap_or, AllZip, list_all, list_any, slice_split, join_with_byte, nat_tests, list_any-append, All-cons, All-tail, QName, Binding, AreBindings, prefix_of, Expands, is_slash, is_star, IsPermutation-refl, nil_from_length}
use Rattle.std.proofs.lemmas.List.Splits.{slice_split_at, slice_split_none}
use Rattle.oim_names.proofs.Spelling.{spelled_back}
use Rattle.oim_dims.specs.Unit.{is_mark, inner, side_pieces, is_piece, numerator_pieces, denominator_pieces, is_writable, measure_text, product_text, side_text, unit_text, Measures, IsMeasure, IsUnit, NamesEach, HasMeasures, UnitOf, Spells, SpellsEach, BindingsSpell, UnitsReadBack}
use Rattle.oim_dims.proofs.OneUnit.{not_refused, one_unit}
use Rattle.oim_dims.proofs.Prefixes.{bound_back}
use Rattle.oim_dims.proofs.Sides.{unopened, closed, one_side}
use Rattle.oim_dims.proofs.Cuts.{cut, no_index}

plain_piece : (t : List ℕ) → is_piece t ≡ true → list_any is_mark t ≡ false
plain_piece t h = not-true (list_any is_mark t) (and_parts (not (length t == 0)) (not (list_any is_mark t)) h).1

neither_in : (p : ℕ → Bool) (xs : List ℕ) (c : ℕ) (ys : List ℕ) → list_any p xs ≡ false → p c ≡ false → list_any p ys ≡ false → list_any p (xs ++ c ∷ ys) ≡ false
neither_in p xs c ys h k l = rw (list_any-append p xs (c ∷ ys), h, k, l) refl

some_after : (xs ys : List ℕ) (c : ℕ) → not (length (xs ++ c ∷ ys) == 0) ≡ true
some_after xs ys c = some_long (length (xs ++ c ∷ ys)) (omega (arith, length-append xs (c ∷ ys)))
  where
    some_long : (n : ℕ) → 0 < n → not (n == 0) ≡ true
    some_long n h = grind (arith, nat_tests)

spelled : (bs : List Binding) (n : QName) → AreBindings bs → IsMeasure n → is_writable bs n ≡ true → Spells bs (measure_text bs n) n
spelled bs n were h w =
    elim (prefix_of bs n.uri) as (λ o. prefix_of bs n.uri ≡ o → option_map_or (λ p. not (list_any is_mark p)) o false ≡ true → Spells bs (unwrap_or o [] ++ 58 ∷ n.local_part) n) [
      | None ↦ λ e k. absurd (cc)
      | Some p ↦ λ e k. let plain = neither_in is_mark p 58 n.local_part (not-true (list_any is_mark p) k) refl h.plain in record {
        piece = rw (some_after p n.local_part 58, plain) refl;
        expands = spelled_back bs p (p ++ 58 ∷ n.local_part) n were refl (bound_back bs p n.uri were.distinct e) h.allowed h.form;
      }
    ] refl w

all_spelled : (bs : List Binding) (ns : List QName) → AreBindings bs → All IsMeasure ns → list_all (is_writable bs) ns ≡ true → All (λ n. Spells bs (measure_text bs n) n) ns
all_spelled bs [] were h w = λ k d lt. absurd (omega arith)
all_spelled bs (n ∷ ns) were h w =
    let b = and_parts (is_writable bs n) (list_all (is_writable bs) ns) w in
    All-cons (λ m. Spells bs (measure_text bs m) m) n ns (spelled bs n were (h 0 n (omega arith)) b.0) (all_spelled bs ns were (All-tail IsMeasure n ns h) b.1)

pub bindings_spell : BindingsSpell
bindings_spell bs m were h w =
    let b = and_parts (list_all (is_writable bs) m.numerators) (list_all (is_writable bs) m.denominators) w in
    record { numerators = all_spelled bs m.numerators were h.multiplied b.0; denominators = all_spelled bs m.denominators were h.divided b.1 }

each_spelled : (bs : List Binding) (f : QName → List ℕ) (ns : List QName) → All (λ n. Spells bs (f n) n) ns → AllZip (Spells bs) (map f ns) ns
each_spelled bs f [] h = tt
each_spelled bs f (n ∷ ns) h = (h 0 n (omega arith), each_spelled bs f ns (All-tail (λ m. Spells bs (f m) m) n ns h))

without : (p : ℕ → Bool) → ((c : ℕ) → is_mark c ≡ false → p c ≡ false) → (xs : List ℕ) → list_any is_mark xs ≡ false → list_any p xs ≡ false
without p under [] h = refl
without p under (x ∷ xs) h =
    elim (is_mark x) as (λ b. is_mark x ≡ b → list_any p (x ∷ xs) ≡ false) [
      | true ↦ λ e. absurd (cc (rw e at h))
      | false ↦ λ e. rw (under x e, without p under xs (rw e at h)) refl
    ] refl

joined_without : (bs : List Binding) (p : ℕ → Bool) → ((c : ℕ) → is_mark c ≡ false → p c ≡ false) → p 42 ≡ false → (ts : List (List ℕ)) (ns : List QName) → AllZip (Spells bs) ts ns → list_any p (join_with_byte 42 ts) ≡ false
joined_without bs p under star [] ns z = refl
joined_without bs p under star (t ∷ ts) [] z = absurd z
joined_without bs p under star (t ∷ []) (n ∷ ns) z = without p under t (plain_piece t z.0.piece)
joined_without bs p under star (t ∷ u ∷ ts) (n ∷ ns) z = neither_in p t 42 (join_with_byte 42 (u ∷ ts)) (without p under t (plain_piece t z.0.piece)) star (joined_without bs p under star (u ∷ ts) ns z.1)

none_all : (p : ℕ → Bool) (xs : List ℕ) → list_any p xs ≡ false → All (λ x. p x ≡ false) xs
none_all p [] h = λ k d lt. absurd (omega arith)
none_all p (x ∷ xs) h =
    elim (p x) as (λ b. p x ≡ b → All (λ y. p y ≡ false) (x ∷ xs)) [
      | true ↦ λ e. absurd (cc (rw e at h))
      | false ↦ λ e. All-cons (λ y. p y ≡ false) x xs e (none_all p xs (rw e at h))
    ] refl

under_star : (c : ℕ) → is_mark c ≡ false → is_star c ≡ false
under_star c h = grind (arith, nat_tests)

under_slash : (c : ℕ) → is_mark c ≡ false → is_slash c ≡ false
under_slash c h = grind (arith, nat_tests)

abbrev is_opening : ℕ → Bool
is_opening c = c == 40

under_opening : (c : ℕ) → is_mark c ≡ false → is_opening c ≡ false
under_opening c h = grind (arith, nat_tests)

-- splitting a product at `*` returns the texts of its measures
split_joined : (bs : List Binding) (ts : List (List ℕ)) (ns : List QName) → AllZip (Spells bs) ts ns → 0 < length ns → slice_split is_star (join_with_byte 42 ts) ≡ ts
split_joined bs [] [] z h = absurd (omega arith)
split_joined bs (t ∷ []) (n ∷ []) z h = slice_split_none is_star t (none_all is_star t (without is_star under_star t (plain_piece t z.0.piece)))
split_joined bs (t ∷ u ∷ ts) (n ∷ m ∷ ns) z h =
    slice_split_at is_star t 42 (join_with_byte 42 (u ∷ ts)) (none_all is_star t (without is_star under_star t (plain_piece t z.0.piece))) refl
    ∙ ap (λ x. t ∷ x) (split_joined bs (u ∷ ts) (m ∷ ns) z.1 (omega arith))
split_joined bs (t ∷ xs) (n ∷ ys) z h = absurd z.1
split_joined bs xs ys z h = absurd z

no_opening : (s : List ℕ) → list_any is_opening s ≡ false → s ≡ inner s
no_opening s h = unopened s (λ rest is. absurd (cc (rw is at h)))

-- a side with one or more measures; f spells each measure
record IsSide (bs : List Binding) (f : QName → List ℕ) (ns : List QName) : Type 0 where
  some : 0 < length ns
  texts : AllZip (Spells bs) (map f ns) ns

product_is_of : (bs : List Binding) (f : QName → List ℕ) (ns : List QName) → IsSide bs f ns → side_pieces (product_text f ns) ≡ map f ns
product_is_of bs f ns h =
    let opening = joined_without bs is_opening under_opening refl (map f ns) ns h.texts in
    ap (slice_split is_star) (sym (no_opening (product_text f ns) opening)) ∙ split_joined bs (map f ns) ns h.texts h.some

side_is_of : (bs : List Binding) (f : QName → List ℕ) (ns : List QName) → IsSide bs f ns → side_pieces (side_text f ns) ≡ map f ns
side_is_of bs f ns h =
    elim (length ns == 1) as (λ b. side_pieces (if b then product_text f ns else 40 ∷ product_text f ns ++ 41 ∷ []) ≡ map f ns) [
      | true ↦ product_is_of bs f ns h
      | false ↦
          ap (slice_split is_star) (sym (closed (40 ∷ product_text f ns ++ 41 ∷ []) (product_text f ns ++ 41 ∷ []) (product_text f ns) refl refl))
          ∙ split_joined bs (map f ns) ns h.texts h.some
    ]

product_slash : (bs : List Binding) (f : QName → List ℕ) (ns : List QName) → IsSide bs f ns → list_any is_slash (product_text f ns) ≡ false
product_slash bs f ns h = joined_without bs is_slash under_slash refl (map f ns) ns h.texts

side_slash : (bs : List Binding) (f : QName → List ℕ) (ns : List QName) → IsSide bs f ns → list_any is_slash (side_text f ns) ≡ false
side_slash bs f ns h =
    elim (length ns == 1) as (λ b. list_any is_slash (if b then product_text f ns else 40 ∷ product_text f ns ++ 41 ∷ []) ≡ false) [
      | true ↦ product_slash bs f ns h
      | false ↦ neither_in is_slash (product_text f ns) 41 [] (product_slash bs f ns h) refl refl
    ]

pieces_are : (bs : List Binding) (ts : List (List ℕ)) (ns : List QName) → AllZip (Spells bs) ts ns → list_all is_piece ts ≡ true
pieces_are bs [] ns z = refl
pieces_are bs (t ∷ ts) [] z = absurd z
pieces_are bs (t ∷ ts) (n ∷ ns) z = rw (z.0.piece, pieces_are bs ts ns z.1) refl

expand_each : (bs : List Binding) (ts : List (List ℕ)) (ns : List QName) → AllZip (Spells bs) ts ns → AllZip (Expands bs) ts ns
expand_each bs [] [] z = tt
expand_each bs (t ∷ ts) (n ∷ ns) z = (z.0.expands, expand_each bs ts ns z.1)
expand_each bs xs ys z = absurd z

names_each : (bs : List Binding) (f : QName → List ℕ) (ns : List QName) → AllZip (Spells bs) (map f ns) ns → NamesEach bs (map f ns) ns
names_each bs f ns z = record { spelled = ns; expands = expand_each bs _ ns z; same = IsPermutation-refl ns }

-- a text whose pieces spell the measures of a unit has these measures
has_measures : (bs : List Binding) (f : QName → List ℕ) (t : List ℕ) (m : Measures) → numerator_pieces t ≡ map f m.numerators → denominator_pieces t ≡ map f m.denominators → AllZip (Spells bs) (map f m.numerators) m.numerators → AllZip (Spells bs) (map f m.denominators) m.denominators → HasMeasures bs t m
has_measures bs f t m np dp nz dz = record {
  form = rw (np, dp) (rw (pieces_are bs (map f m.numerators) m.numerators nz, pieces_are bs (map f m.denominators) m.denominators dz) refl);
  numerators = rw np (names_each bs f m.numerators nz);
  denominators = rw dp (names_each bs f m.denominators dz);
}

some_names : (ns : List QName) → ns ≢ [] → 0 < length ns
some_names [] h = absurd (h refl)
some_names (n ∷ ns) h = omega arith

some_names_by : (ns : List QName) → (length ns == 0) ≡ false → 0 < length ns
some_names_by ns h = grind (arith, nat_tests)

-- the pieces of the text of a unit, with and without denominators
module _ (bs : List Binding) (f : QName → List ℕ) (m : Measures) (nz : AllZip (Spells bs) (map f m.numerators) m.numerators) (some : 0 < length m.numerators) where
  numerators_alone : m.denominators ≡ [] → (numerator_pieces (product_text f m.numerators) ≡ map f m.numerators) × (denominator_pieces (product_text f m.numerators) ≡ map f m.denominators)
  numerators_alone none =
      let side : IsSide bs f m.numerators = record { some = some; texts = nz } in
      let one = one_side (product_text f m.numerators) (no_index is_slash (product_text f m.numerators) (product_slash bs f m.numerators side)) in
      (one.0 ∙ product_is_of bs f m.numerators side, rw none one.1)

  both_sides : AllZip (Spells bs) (map f m.denominators) m.denominators → 0 < length m.denominators → let t = side_text f m.numerators ++ 47 ∷ side_text f m.denominators in (numerator_pieces t ≡ map f m.numerators) × (denominator_pieces t ≡ map f m.denominators)
  unfolding numerator_pieces denominator_pieces
  both_sides dz more =
      let up : IsSide bs f m.numerators = record { some = some; texts = nz } in
      let down : IsSide bs f m.denominators = record { some = more; texts = dz } in
      let parts = cut is_slash (side_text f m.numerators) (side_text f m.denominators) 47 (side_slash bs f m.numerators up) refl in
      (ap side_pieces parts.before ∙ side_is_of bs f m.numerators up, rw parts.some (ap side_pieces parts.after ∙ side_is_of bs f m.denominators down))

denotes : (bs : List Binding) (f : QName → List ℕ) (m : Measures) → IsUnit m → SpellsEach bs f m → UnitOf bs (unit_text f m) (Some m)
unfolding unit_text
denotes bs f m h spells =
    let nz = each_spelled bs f m.numerators spells.numerators in
    let dz = each_spelled bs f m.denominators spells.denominators in
    let some = some_names m.numerators h.some in
    elim (length m.denominators == 0) as (λ t. (length m.denominators == 0) ≡ t → UnitOf bs (if t then product_text f m.numerators else side_text f m.numerators ++ 47 ∷ side_text f m.denominators) (Some m)) [
      | true ↦ λ e. let p = numerators_alone bs f m nz some (nil_from_length m.denominators (eqb-true (length m.denominators) 0 e)) in (has_measures bs f _ m p.0 p.1 nz dz, h.unit)
      | false ↦ λ e. let p = both_sides bs f m nz some dz (some_names_by m.denominators e) in (has_measures bs f _ m p.0 p.1 nz dz, h.unit)
    ] refl

pub unit_back : UnitsReadBack
unit_back bs f m h spells =
    let unit = denotes bs f m h spells in
    record {
      unit = unit;
      accepted = not_refused bs (unit_text f m) (Some m) unit;
      alone = λ u other sorted. one_unit bs (unit_text f m) u (Some m) other unit sorted h;
    }
