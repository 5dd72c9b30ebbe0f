-- If a text is not refused as a unit, its pieces expand to names that can be measures.
use Rattle.oim_dims.proofs.Shared.{◌≡◌, ◌≢◌, ◌⊎◌, inl, inr, ◌∙◌, ℕ, zero, suc, ◌<◌, Bool, true, false, cond, List, [], ◌∷◌, length, drop, get_or, refl, sym, ap, arith, Option, Some, None, All, IsTrue, not, if◌then◌else◌, ◌&&◌, ◌==◌, and_parts, or_parts, not-true, nat_tests, AllZip, list_all, list_any, slice_split, onto_first, All-cons, QName, is_name, is_part, prefix_part, local_part, Binding, AreBindings, Expands, name_refusal, is_unbound, is_reserved, lacks_form, lacks_binding, lies_in_reserved, Reason, OutOfMemory, NameForm, UnboundPrefix, ReservedNamespace, UnitForm, is_star, is_mark, is_piece, is_unit_text, some_piece, unit_refusal, numerator_pieces, denominator_pieces, IsMeasure, AllZip-long}
use Rattle.oim_names.proofs.Lookups.{bound_filled}

-- the refusal of a name in terms of its three tests
abbrev first_of_three : Bool → Bool → Bool → Option Reason
first_of_three form unbound reserved =
    if form then (if unbound then Some UnboundPrefix else (if reserved then Some ReservedNamespace else None))
    else Some NameForm

none_of_three : (a b c : Bool) → not a ≡ false → (a && b) ≡ false → (a && c) ≡ false → first_of_three a b c ≡ None
none_of_three true false false h k l = refl
none_of_three b c other h k l = cc

piece_named : (bs : List Binding) (p : List ℕ) → lacks_form is_name p ≡ false → lacks_binding is_name bs p ≡ false → lies_in_reserved is_name bs p ≡ false → name_refusal bs p ≡ None
piece_named bs p h k l = none_of_three (is_name p) (is_unbound bs p) (is_reserved bs p) h k l

all_named : (bs : List Binding) (ps : List (List ℕ)) → list_any (lacks_form is_name) ps ≡ false → list_any (lacks_binding is_name bs) ps ≡ false → list_any (lies_in_reserved is_name bs) ps ≡ false → All (λ p. name_refusal bs p ≡ None) ps
all_named bs [] h k l = λ j d lt. absurd (omega arith)
all_named bs (p ∷ ps) h k l =
    let a = or_parts (lacks_form is_name p) (list_any (lacks_form is_name) ps) h in
    let b = or_parts (lacks_binding is_name bs p) (list_any (lacks_binding is_name bs) ps) k in
    let c = or_parts (lies_in_reserved is_name bs p) (list_any (lies_in_reserved is_name bs) ps) l in
    All-cons (λ q. name_refusal bs q ≡ None) p ps (piece_named bs p a.0 b.0 c.0) (all_named bs ps a.1 b.1 c.1)

-- the text has the form of a unit, and no piece is refused as a name
pub record IsNamed (bs : List Binding) (t : List ℕ) : Type 0 where
  pub form : is_unit_text t ≡ true
  pub numerators : All (λ p. name_refusal bs p ≡ None) (numerator_pieces t)
  pub denominators : All (λ p. name_refusal bs p ≡ None) (denominator_pieces t)

-- the refusal of a unit in terms of its four tests
abbrev first_of_four : Bool → Bool → Bool → Bool → Option Reason
first_of_four form named unbound reserved =
    if not form then Some UnitForm else (if named then Some NameForm else (if unbound then Some UnboundPrefix else (if reserved then Some ReservedNamespace else None)))

none_of_four : (a b c d : Bool) → first_of_four a b c d ≡ None → (a ≡ true) × (b ≡ false) × (c ≡ false) × (d ≡ false)
none_of_four true false false false h = (refl, refl, refl, refl)
none_of_four b c other d h = cc

pub unit_named : (bs : List Binding) (t : List ℕ) → unit_refusal bs t ≡ None → IsNamed bs t
unit_named bs t h =
    let e = none_of_four (is_unit_text t) (some_piece (lacks_form is_name) t) (some_piece (lacks_binding is_name bs) t) (some_piece (lies_in_reserved is_name bs) t) h in
    let a = or_parts _ _ e.1 in
    let b = or_parts _ _ e.2 in
    let c = or_parts _ _ e.3 in
    record { form = e.0; numerators = all_named bs (numerator_pieces t) a.0 b.0 c.0; denominators = all_named bs (denominator_pieces t) a.1 b.1 c.1 }

pub only_memory : (bs : List Binding) (p : List ℕ) (e : Reason) → name_refusal bs p ≡ None → (e ≡ OutOfMemory) ⊎ (name_refusal bs p ≡ Some e) → e ≡ OutOfMemory
only_memory bs p e none h = elim h [ inl memory ↦ memory | inr refused ↦ absurd (cc (sym none ∙ refused)) ]

pub no_mark_after : (n : ℕ) (p : List ℕ) → list_any is_mark p ≡ false → list_any is_mark (drop n p) ≡ false
no_mark_after zero p h = h
no_mark_after (suc n) [] h = refl
no_mark_after (suc n) (c ∷ cs) h = no_mark_after n cs (or_parts (is_mark c) (list_any is_mark cs) h).1

measure_of_piece : (bs : List Binding) (p : List ℕ) (n : QName) → AreBindings bs → Expands bs p n → is_piece p ≡ true → IsMeasure n
measure_of_piece bs p n were e h =
    let parts = and_parts (not (length p == 0)) (not (list_any is_mark p)) h in
    let plain : list_any is_mark p ≡ false = not-true (list_any is_mark p) parts.1 in
    let form : IsTrue (is_part (local_part p)) = (and_parts (is_part (prefix_part p)) (is_part (local_part p)) e.form).1 in
    record {
      filled = bound_filled bs (prefix_part p) n.uri were.uris e.uri;
      allowed = e.allowed;
      form = rw e.local_part form;
      plain = rw e.local_part (no_mark_after _ p plain);
    }

pub measures_of_pieces : (bs : List Binding) (ps : List (List ℕ)) (ns : List QName) → AreBindings bs → AllZip (Expands bs) ps ns → list_all is_piece ps ≡ true → All IsMeasure ns
measures_of_pieces bs [] [] were z h = λ j d lt. absurd (omega arith)
measures_of_pieces bs (p ∷ ps) (n ∷ ns) were z h =
    let b = and_parts (is_piece p) (list_all is_piece ps) h in
    All-cons IsMeasure n ns (measure_of_piece bs p n were z.0 b.0) (measures_of_pieces bs ps ns were z.1 b.1)
measures_of_pieces bs xs ys were z h = absurd z

onto_some : (c : ℕ) (ps : List (List ℕ)) → 0 < length (onto_first c ps)
onto_some c [] = omega arith
onto_some c (p ∷ ps) = omega arith

split_some : (s : List ℕ) → 0 < length (slice_split is_star s)
split_some [] = omega arith
split_some (c ∷ cs) = elim (is_star c) as (λ b. 0 < length (cond b ([] ∷ slice_split is_star cs) (onto_first c (slice_split is_star cs)))) [ true ↦ omega arith | false ↦ onto_some c (slice_split is_star cs) ]

pub side_some : (bs : List Binding) (s : List ℕ) (ns ms : List QName) → AllZip (Expands bs) (slice_split is_star s) ns → length ms ≡ length ns → ms ≢ []
side_some bs s ns ms z same e = let none : length ms ≡ 0 = ap length e in omega (arith, AllZip-long (Expands bs) (slice_split is_star s) ns z, split_some s)

pub alone_is : (ns : List QName) (n : QName) → length ns ≡ 1 → n ≡ get_or ns 0 n → ns ≡ n ∷ []
alone_is (m ∷ []) n one h = ap (λ x. x ∷ []) (sym h)
alone_is xs n one h = absurd (omega arith)

pub head_is : (m n : QName) → m ∷ [] ≡ n ∷ [] → m ≡ n
head_is m n h = cc

pub zero_is : (n : ℕ) (b : Bool) → b ≡ (n == 0) → b ≡ true → n ≡ 0
zero_is n b h e = grind (arith, nat_tests)
