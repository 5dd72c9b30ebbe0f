-- A text that denotes a unit is not refused, and it denotes only one unit that satisfies `IsUnit`.
use Rattle.oim_dims.proofs.Shared.{◌≡◌, ◌≢◌, ◌⊎◌, inl, inr, ℕ, suc, false, List, [], ◌∷◌, refl, subst, sym, ap, ◌∙◌, arith, Some, None, All, AllZip, list_any, IsSorted, tied_itself, Less, Equal, Greater, IsPermutation-refl, QName, is_name, exact_name, Binding, Expands, name_refusal, reserved_uri, lacks_form, lacks_binding, lies_in_reserved, name_total, bytes_not_eq, name_cmp, Measures, NamesEach, HasMeasures, unit_refusal, pure_name, pure_alone, numerator_pieces, denominator_pieces, UnitsAreNotRefused, OthersAreRefused, TextsDenoteOneUnit}
use Rattle.oim_names.proofs.Refusals.{kept_named, names_one}
use Rattle.oim_dims.proofs.Naming.{unit_named}
use Rattle.oim_dims.proofs.SortedOnce.{sorted_once}

same_names : (bs : List Binding) (ps : List (List ℕ)) (ms ns : List QName) → AllZip (Expands bs) ps ms → AllZip (Expands bs) ps ns → ms ≡ ns
same_names bs [] [] [] a b = refl
same_names bs [] (m ∷ ms) ns a b = absurd a
same_names bs (p ∷ ps) [] ns a b = absurd a
same_names bs (p ∷ ps) (m ∷ ms) (n ∷ ns) a b = let one = names_one is_name bs p m n a.0 b.0 in let rest = same_names bs ps ms ns a.1 b.1 in λ i. one i ∷ rest i
same_names bs xs ys zs a b = absurd b

one_side : (bs : List Binding) (ps : List (List ℕ)) (ms ns : List QName) → NamesEach bs ps ms → NamesEach bs ps ns → IsSorted name_cmp ms → IsSorted name_cmp ns → ms ≡ ns
one_side bs ps ms ns a b sm sn =
    let spelled = same_names bs ps b.spelled a.spelled b.expands a.expands in
    sorted_once name_cmp name_total exact_name ms ns a.spelled a.same (rw spelled at b.same) sm sn

one_unit_of : (bs : List Binding) (t : List ℕ) (m n : Measures) → HasMeasures bs t m → HasMeasures bs t n → IsSorted name_cmp m.numerators → IsSorted name_cmp m.denominators → IsSorted name_cmp n.numerators → IsSorted name_cmp n.denominators → m ≡ n
one_unit_of bs t m n a b mu md nu nd =
    let up = one_side bs (numerator_pieces t) m.numerators n.numerators a.numerators b.numerators mu nu in
    let down = one_side bs (denominator_pieces t) m.denominators n.denominators a.denominators b.denominators md nd in
    λ i. record { numerators = up i; denominators = down i }

alone_sorted : (n : QName) → IsSorted name_cmp (n ∷ [])
alone_sorted n k d low within = absurd (omega arith)

pub none_sorted : IsSorted name_cmp []
none_sorted k d low within = absurd (omega arith)

pub one_unit : TextsDenoteOneUnit
one_unit bs t None None a b h k = refl
one_unit bs t None (Some n) a b h k = absurd (b.1 (sym (one_unit_of bs t pure_alone n a b.0 (alone_sorted pure_name) none_sorted k.numerators k.denominators)))
one_unit bs t (Some m) None a b h k = absurd (a.1 (one_unit_of bs t m pure_alone a.0 b h.numerators h.denominators (alone_sorted pure_name) none_sorted))
one_unit bs t (Some m) (Some n) a b h k = ap Some (one_unit_of bs t m n a.0 b.0 h.numerators h.denominators k.numerators k.denominators)

-- the piece passes the three tests for a name
record IsFree (bs : List Binding) (p : List ℕ) : Type 0 where
  form : lacks_form is_name p ≡ false
  prefix : lacks_binding is_name bs p ≡ false
  space : lies_in_reserved is_name bs p ≡ false

free : (bs : List Binding) (p : List ℕ) (n : QName) → Expands bs p n → IsFree bs p
free bs p n e =
    let other = bytes_not_eq n.uri reserved_uri e.allowed in
    record { form = rw e.form refl; prefix = rw (e.form, e.uri) refl; space = rw (e.form, e.uri, other) refl }

-- no piece is refused if each piece expands to a name
none_refused : (bs : List Binding) (ps : List (List ℕ)) (ns : List QName) → AllZip (Expands bs) ps ns → (list_any (lacks_form is_name) ps ≡ false) × (list_any (lacks_binding is_name bs) ps ≡ false) × (list_any (lies_in_reserved is_name bs) ps ≡ false)
none_refused bs [] [] z = (refl, refl, refl)
none_refused bs (p ∷ ps) (n ∷ ns) z =
    let here = free bs p n z.0 in
    let rest = none_refused bs ps ns z.1 in
    (rw (here.form, rest.0) refl, rw (here.prefix, rest.1) refl, rw (here.space, rest.2) refl)
none_refused bs xs ys z = absurd z

measured_not_refused : (bs : List Binding) (t : List ℕ) (m : Measures) → HasMeasures bs t m → unit_refusal bs t ≡ None
measured_not_refused bs t m h =
    let up = none_refused bs (numerator_pieces t) h.numerators.spelled h.numerators.expands in
    let down = none_refused bs (denominator_pieces t) h.denominators.spelled h.denominators.expands in
    rw (h.form, up.0, down.0, up.1, down.1, up.2, down.2) refl

pub not_refused : UnitsAreNotRefused
not_refused bs t None h = measured_not_refused bs t pure_alone h
not_refused bs t (Some m) h = measured_not_refused bs t m h.0

all_named : (bs : List Binding) (ps : List (List ℕ)) → All (λ p. name_refusal bs p ≡ None) ps → (ns : List QName) × AllZip (Expands bs) ps ns
all_named bs [] h = ([], tt)
all_named bs (p ∷ ps) h =
    let first = kept_named is_name bs p (h 0 p (omega arith)) in
    let rest = all_named bs ps (λ k d within. h (suc k) d (omega arith)) in
    (first.0 ∷ rest.0, (first.1, rest.1))

each_named : (bs : List Binding) (ps : List (List ℕ)) → All (λ p. name_refusal bs p ≡ None) ps → (ns : List QName) × NamesEach bs ps ns
each_named bs ps h = let found = all_named bs ps h in (found.0, record { spelled = found.0; expands = found.1; same = IsPermutation-refl found.0 })

-- two names are equal or different, so measures are `pure` alone or they are not
same_name : (m n : QName) → (m ≡ n) ⊎ (m ≢ n)
same_name m n =
    elim (name_cmp m n) as (λ r. name_cmp m n ≡ r → (m ≡ n) ⊎ (m ≢ n)) [
      | Less ↦ λ e. inr (λ same. cc (sym e ∙ ap (name_cmp m) (sym same) ∙ tied_itself name_total m))
      | Equal ↦ λ e. inl (exact_name m n e)
      | Greater ↦ λ e. inr (λ same. cc (sym e ∙ ap (name_cmp m) (sym same) ∙ tied_itself name_total m))
    ] refl

is_pure_alone : (ms ds : List QName) → let m : Measures = record { numerators = ms; denominators = ds } in (m ≡ pure_alone) ⊎ (m ≢ pure_alone)
is_pure_alone [] ds = inr (λ e. let none : [] ≡ pure_name ∷ [] = ap (λ (m : Measures). m.numerators) e in cc)
is_pure_alone (m ∷ n ∷ ms) ds = inr (λ e. let one : m ∷ n ∷ ms ≡ pure_name ∷ [] = ap (λ (m : Measures). m.numerators) e in cc)
is_pure_alone (m ∷ []) (d ∷ ds) = inr (λ e. let none : d ∷ ds ≡ [] = ap (λ (m : Measures). m.denominators) e in cc)
is_pure_alone (m ∷ []) [] = elim (same_name m pure_name) [
  | inl same ↦ inl (λ i. record { numerators = same i ∷ []; denominators = [] })
  | inr other ↦ inr (λ e. let one : m ∷ [] ≡ pure_name ∷ [] = ap (λ (m : Measures). m.numerators) e in other (cc))
]

pub refused_others : OthersAreRefused
refused_others bs t none =
    let pieces = unit_named bs t none in
    let up = each_named bs (numerator_pieces t) pieces.numerators in
    let down = each_named bs (denominator_pieces t) pieces.denominators in
    let h : HasMeasures bs t (record { numerators = up.0; denominators = down.0 }) = record { form = pieces.form; numerators = up.1; denominators = down.1 } in
    elim (is_pure_alone up.0 down.0) [
      | inl pure ↦ (None, subst (HasMeasures bs t) pure h)
      | inr other ↦ (Some (record { numerators = up.0; denominators = down.0 }), (h, other))
    ]
