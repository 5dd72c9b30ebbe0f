-- The units that texts denote, and what `unit_of` returns for the texts.
use Rattle.oim_report.proofs.Shared.{◌≡◌, ◌≢◌, ℕ, zero, suc, ◌+◌, List, [], ◌∷◌, false, refl, ap, ◌∙◌, arith, ℤ, Bool, true, not, ◌&&◌, cond, sym, Option, Some, None, subst, ◌==◌, length, IfSome, option_map, if◌then◌else◌, option_and_then, All, IsSorted, IsPermutation, is_lt, is_eq, Less, Equal, Greater, IsUtf8, not-true, cond-true, cond-false, cond_both, and_parts, AllZip, list_all, list_any, before_first, tied_itself, Equal-is, IsPermutation-refl, IsPermutation-cons, IsPermutation-insert, IsPermutation-trans, All-permutation, length_permutation, All-cons, All-head, All-tail, QName, is_name, exact_name, prefix_part, name_cmp, Binding, Expands, name_total, NumberForm, NumberDigits, Denotes, is_number, is_short, number_refusal, units_of, Number, denotes_units, is_slash, all_named, in_order, side_of, unit_of, unit_with, with_name, said_unit, text_said, ConceptKind, Numeric, Given, text, absent, SaysUnit, named, FitsName, UnitFits, none_sorted}
use Rattle.oim_dims.specs.Unit.{Measures, NamesEach, HasMeasures, UnitOf, IsUnit, numerator_pieces, denominator_pieces, pure_name, pure_alone, is_unit_text, IsMeasure, inner, is_mark, is_piece}
use Rattle.oim_dims.proofs.SortedOnce.{sorted_once}
use Rattle.oim_dims.proofs.Naming.{side_some, no_mark_after}
use Rattle.oim_report.proofs.Naming.{expanded, stands}
use Rattle.oim_report.proofs.MemberOrder.{other_way}
use Rattle.oim_report.proofs.Accepted.{and_then_some, map_some}
use Rattle.oim_report.proofs.Fitting.{AreNamespaces, IsClean, bound_uri, name_fits}
use Rattle.oim_report.proofs.CutUtf8.{denominators_utf8, numerators_utf8}

-- ---- if a text denotes a unit that satisfies `IsUnit`, `unit_of` returns this unit. For `pure` alone, `unit_of` returns
-- `Some None`.

pub with_same : (n : QName) (ms : List QName) → IsPermutation (n ∷ ms) (with_name n ms)
with_same n [] = IsPermutation-refl (n ∷ [])
with_same n (m ∷ ms) =
    cond_both (is_lt (name_cmp m n)) (m ∷ with_name n ms) (n ∷ m ∷ ms) (IsPermutation (n ∷ m ∷ ms))
    (λ after. IsPermutation-trans (n ∷ m ∷ ms) (m ∷ n ∷ ms) (m ∷ with_name n ms) (IsPermutation-insert (m ∷ ms) 1 n) (IsPermutation-cons m (n ∷ ms) (with_name n ms) (with_same n ms)))
    (λ before. IsPermutation-refl (n ∷ m ∷ ms))

pub order_same : (ns : List QName) → IsPermutation ns (in_order ns)
order_same [] = IsPermutation-refl []
order_same (n ∷ ns) = IsPermutation-trans (n ∷ ns) (n ∷ in_order ns) (with_name n (in_order ns)) (IsPermutation-cons n ns (in_order ns) (order_same ns)) (with_same n (in_order ns))

-- no name is below the name before it
abbrev pub from : QName → List QName → Type 0
from x [] = Unit {0}
from x (y ∷ ys) = (is_lt (name_cmp y x) ≡ false) × from y ys

abbrev pub ordered : List QName → Type 0
ordered [] = Unit {0}
ordered (x ∷ xs) = from x xs

from_with : (x n : QName) (ms : List QName) → from x ms → is_lt (name_cmp n x) ≡ false → from x (with_name n ms)
from_with x n [] c h = (h, tt)
from_with x n (m ∷ ms) c h =
    cond_both (is_lt (name_cmp m n)) (m ∷ with_name n ms) (n ∷ m ∷ ms) (from x)
    (λ after. (c.0, from_with m n ms c.1 (other_way m n after)))
    (λ before. (h, (before, c.1)))

ordered_with : (n : QName) (ms : List QName) → ordered ms → ordered (with_name n ms)
ordered_with n [] c = tt
ordered_with n (m ∷ ms) c =
    cond_both (is_lt (name_cmp m n)) (m ∷ with_name n ms) (n ∷ m ∷ ms) ordered
    (λ after. from_with m n ms c (other_way m n after))
    (λ before. (before, c))

pub is_ordered : (ns : List QName) → ordered (in_order ns)
is_ordered [] = tt
is_ordered (n ∷ ns) = ordered_with n (in_order ns) (is_ordered ns)

sorted_from : (x : QName) (xs : List QName) → from x xs → IsSorted name_cmp (x ∷ xs)
sorted_from x [] c k d low within = absurd (omega arith)
sorted_from x (y ∷ ys) c zero d low within = c.0
sorted_from x (y ∷ ys) c (suc k) d low within = let e : suc k + 1 ≡ suc (k + 1) = omega arith in rw e (sorted_from y ys c.1 k d (omega arith) (omega arith))

pub sorted : (xs : List QName) → ordered xs → IsSorted name_cmp xs
sorted [] c = λ k d low within. absurd (omega arith)
sorted (x ∷ xs) c = sorted_from x xs c

pub spelled : (bs : List Binding) (ps : List (List ℕ)) (ns : List QName) → AllZip (Expands bs) ps ns → all_named bs ps ≡ Some ns
spelled bs [] [] z = refl
spelled bs (p ∷ ps) (n ∷ ns) z = rw (expanded is_name bs p n z.0, spelled bs ps ns z.1) refl
spelled bs ps ns z = absurd z

pub side : (bs : List Binding) (ps : List (List ℕ)) (ns : List QName) → NamesEach bs ps ns → IsSorted name_cmp ns → side_of bs ps ≡ Some ns
side bs ps ns each up =
    ap (option_map in_order) (spelled bs ps each.spelled each.expands)
    ∙ ap Some (sorted_once name_cmp name_total exact_name (in_order each.spelled) ns each.spelled (order_same each.spelled) each.same (sorted (in_order each.spelled) (is_ordered each.spelled)) up)

both_sides : (bs : List Binding) (t : List ℕ) (m : Measures) → HasMeasures bs t m → IsSorted name_cmp m.numerators → IsSorted name_cmp m.denominators → unit_of bs t ≡ Some (unit_with m.numerators m.denominators)
both_sides bs t m has up down =
    rw (has.form, side bs (numerator_pieces t) m.numerators has.numerators up, side bs (denominator_pieces t) m.denominators has.denominators down) refl

alone_sorted : IsSorted name_cmp (pure_name ∷ [])
alone_sorted = sorted_from pure_name [] tt

is_none : unit_with (pure_name ∷ []) [] ≡ None
is_none = cond-true (is_eq (name_cmp pure_name pure_name)) None (Some pure_alone) (ap is_eq (tied_itself name_total pure_name))

not_pure : (n : QName) → n ≢ pure_name → is_eq (name_cmp n pure_name) ≡ false
not_pure n other =
    elim (name_cmp n pure_name) as (λ r. name_cmp n pure_name ≡ r → is_eq r ≡ false) [
      | Less ↦ λ e. refl
      | Equal ↦ λ e. absurd (other (exact_name n pure_name e))
      | Greater ↦ λ e. refl
    ] refl

other_unit : (ns ds : List QName) → let m : Measures = record { numerators = ns; denominators = ds } in m ≢ pure_alone → unit_with ns ds ≡ Some m
other_unit (n ∷ []) [] other = cond-false _ _ _ (not_pure n (λ same. other (λ i. record { numerators = same i ∷ []; denominators = [] })))
other_unit ns ds other = refl

pub unit_is : (bs : List Binding) (t : List ℕ) (u : Option Measures) → UnitOf bs t u → IfSome u IsUnit → unit_of bs t ≡ Some u
unit_is bs t None says is = both_sides bs t pure_alone says alone_sorted none_sorted ∙ ap Some is_none
unit_is bs t (Some m) says is = both_sides bs t m says.0 is.numerators is.denominators ∙ ap Some (other_unit m.numerators m.denominators says.1)

-- ---- the number or the unit that is read from a text is the one that the text denotes

both : (number short : Bool) → cond (not number) (Some NumberForm) (cond (not short) (Some NumberDigits) None) ≡ None → (number && short) ≡ true
both true true h = refl
both number short h = absurd (cc)

pub number_said : (bs : List Binding) (kind : ConceptKind) (t : List ℕ) (units : ℤ) (places : Option ℤ) → kind ≡ Numeric → Denotes t units → number_refusal t ≡ None → text_said bs kind places t ≡ Some (Number units places)
number_said bs kind t units places is says none =
    ap (λ k. text_said bs k places t) is
    ∙ ap (λ b. if b then Some (Number (units_of t) places) else None) (both (is_number t) (is_short t) none) ∙ (λ i. Some (Number (sym (denotes_units t units says) i) places))

pub unit_read : (bs : List Binding) (kind : ConceptKind) (g : Given) (t : List ℕ) (u : Option Measures) → kind ≡ Numeric → g ≡ text t → UnitOf bs t u → IfSome u IsUnit → said_unit bs kind g ≡ Some u
unit_read bs kind g t u numeric is says sorted = (λ i. said_unit bs (numeric i) (is i)) ∙ unit_is bs t u says sorted

-- ---- if `unit_of` returns a unit, the text denotes this unit

each_named : (bs : List Binding) (ps : List (List ℕ)) (ns : List QName) → all_named bs ps ≡ Some ns → AllZip (Expands bs) ps ns
each_named bs [] ns e = let same : [] ≡ ns = cc in subst (AllZip (Expands bs) []) same tt
each_named bs (p ∷ ps) ns e =
    let a = and_then_some (λ n. option_map (λ ms. n ∷ ms) (all_named bs ps)) (named bs p) ns e in
    let b = map_some (λ ms. a.0 ∷ ms) (all_named bs ps) ns a.2 in
    subst (AllZip (Expands bs) (p ∷ ps)) b.2 (stands is_name bs p a.0 a.1, each_named bs ps b.0 b.1)

-- `ns` are the names that the pieces `ps` of one side denote, sorted
pub record IsSide (bs : List Binding) (ps : List (List ℕ)) (ns : List QName) : Type 0 where
  pub names : NamesEach bs ps ns
  pub order : IsSorted name_cmp ns

side_is : (bs : List Binding) (ps : List (List ℕ)) (ns : List QName) → side_of bs ps ≡ Some ns → IsSide bs ps ns
side_is bs ps ns e =
    let a = map_some in_order (all_named bs ps) ns e in
    subst (IsSide bs ps) a.2 (record {
      names = record { spelled = a.0; expands = each_named bs ps a.0 a.1; same = order_same a.0 };
      order = sorted (in_order a.0) (is_ordered a.0);
    })

abbrev pub unit_made : List QName → List QName → Measures
unit_made ns ds = record { numerators = ns; denominators = ds }

-- u is None if these sides are `pure` alone; otherwise u is the unit with these sides
pub data Made (ns ds : List QName) (u : Option Measures) : Type 0 where
  alone : u ≡ None → unit_made ns ds ≡ pure_alone → Made ns ds u
  unit : u ≡ Some (unit_made ns ds) → unit_made ns ds ≢ pure_alone → Made ns ds u

numerators_of : (m n : Measures) → m ≡ n → m.numerators ≡ n.numerators
numerators_of m n e = ap (λ (k : Measures). k.numerators) e

denominators_of : (m n : Measures) → m ≡ n → m.denominators ≡ n.denominators
denominators_of m n e = ap (λ (k : Measures). k.denominators) e

is_tied : (n : QName) → is_eq (name_cmp n pure_name) ≡ true → n ≡ pure_name
is_tied n e = exact_name n pure_name ((Equal-is (name_cmp n pure_name)).0 e)

not_tied : (n : QName) → is_eq (name_cmp n pure_name) ≡ false → n ≢ pure_name
not_tied n e same = let tie : is_eq (name_cmp n pure_name) ≡ true = ap is_eq (ap (λ k. name_cmp k pure_name) same ∙ tied_itself name_total pure_name) in absurd (cc)

made : (ns ds : List QName) (u : Option Measures) → unit_with ns ds ≡ u → Made ns ds u
made [] ds u e = unit (sym e) (λ same. let h : [] ≡ pure_name ∷ [] = numerators_of (unit_made [] ds) pure_alone same in absurd (cc))
made (n ∷ []) [] u e =
    elim (is_eq (name_cmp n pure_name)) as (λ b. is_eq (name_cmp n pure_name) ≡ b → cond b None (Some (unit_made (n ∷ []) [])) ≡ u → Made (n ∷ []) [] u) [
      | true ↦ λ t h. alone (sym h) (λ i. record { numerators = is_tied n t i ∷ []; denominators = [] })
      | false ↦ λ t h. unit (sym h) (λ same. (let k : n ∷ [] ≡ pure_name ∷ [] = numerators_of (unit_made (n ∷ []) []) pure_alone same in let one : n ≡ pure_name = cc in not_tied n t one))
    ] refl e
made (n ∷ []) (d ∷ ds) u e = unit (sym e) (λ same. let h : d ∷ ds ≡ [] = denominators_of (unit_made (n ∷ []) (d ∷ ds)) pure_alone same in absurd (cc))
made (n ∷ m ∷ ns) ds u e = unit (sym e) (λ same. let h : n ∷ m ∷ ns ≡ pure_name ∷ [] = numerators_of (unit_made (n ∷ m ∷ ns) ds) pure_alone same in absurd (cc))

pub record HasSides (bs : List Binding) (t : List ℕ) (u : Option Measures) : Type 0 where
  pub form : is_unit_text t ≡ true
  pub numerators : List QName
  pub denominators : List QName
  pub above : IsSide bs (numerator_pieces t) numerators
  pub below : IsSide bs (denominator_pieces t) denominators
  pub made : Made numerators denominators u

sides_if : (bs : List Binding) (t : List ℕ) (u : Option Measures) (form : Bool) → is_unit_text t ≡ form → cond form (option_and_then (λ ns. option_map (unit_with ns) (side_of bs (denominator_pieces t))) (side_of bs (numerator_pieces t))) None ≡ Some u → HasSides bs t u
sides_if bs t u false form e = absurd (cc)
sides_if bs t u true form e =
    let a = and_then_some (λ ns. option_map (unit_with ns) (side_of bs (denominator_pieces t))) (side_of bs (numerator_pieces t)) u e in
    let b = map_some (unit_with a.0) (side_of bs (denominator_pieces t)) u a.2 in
    record { form = form; numerators = a.0; denominators = b.0; above = side_is bs (numerator_pieces t) a.0 a.1; below = side_is bs (denominator_pieces t) b.0 b.1; made = made a.0 b.0 u b.2 }

pub sides : (bs : List Binding) (t : List ℕ) (u : Option Measures) → unit_of bs t ≡ Some u → HasSides bs t u
sides bs t u e = sides_if bs t u (is_unit_text t) refl e

measures : (bs : List Binding) (t : List ℕ) (u : Option Measures) (has : HasSides bs t u) → HasMeasures bs t (unit_made has.numerators has.denominators)
measures bs t u has = record { form = has.form; numerators = has.above.names; denominators = has.below.names }

unit_denoted : (bs : List Binding) (t : List ℕ) (u : Option Measures) → HasSides bs t u → UnitOf bs t u
unit_denoted bs t u has = elim has.made [
  | alone none pure ↦ subst (UnitOf bs t) (sym none) (subst (HasMeasures bs t) pure (measures bs t u has))
  | unit some other_unit ↦ subst (UnitOf bs t) (sym some) (measures bs t u has, other_unit)
]

pub unit_says : (bs : List Binding) (kind : ConceptKind) (g : Given) (u : Option Measures) → said_unit bs kind g ≡ Some u → SaysUnit bs g u
unit_says bs kind absent u e = (let same : None ≡ u = cc in sym same)
unit_says bs Numeric (text t) u e = unit_denoted bs t u (sides bs t u e)
unit_says bs kind g u e = absurd (cc)

-- ---- if the URIs of all bindings are namespaces, a unit that a UTF-8 text denotes satisfies `IsUnit` and fits the kind of
-- the concept.

abbrev IsGood : QName → Type 0
IsGood n = IsMeasure n × FitsName n

good : (bs : List Binding) (p : List ℕ) (n : QName) → AreNamespaces bs → is_piece p ≡ true → IsUtf8 p → Expands bs p n → IsGood n
good bs p n are piece utf8 e =
    let uri = bound_uri bs (prefix_part p) n.uri are e.uri in
    let plain = not-true (list_any is_mark p) (and_parts (not (length p == 0)) (not (list_any is_mark p)) piece).1 in
    let fits = name_fits bs p n are utf8 e in
    (record { filled = uri.0; allowed = e.allowed; form = fits.form; plain = subst (λ l. list_any is_mark l ≡ false) (sym e.local_part) (no_mark_after _ p plain) }, fits)

each_good : (bs : List Binding) (ps : List (List ℕ)) (ns : List QName) → AreNamespaces bs → list_all is_piece ps ≡ true → All IsUtf8 ps → AllZip (Expands bs) ps ns → All IsGood ns
each_good bs [] [] are pieces utf8 z = λ k d lt. absurd (omega (arith, lt))
each_good bs (p ∷ ps) (n ∷ ns) are pieces utf8 z =
    let both = and_parts (is_piece p) (list_all is_piece ps) pieces in
    All-cons IsGood n ns (good bs p n are both.0 (All-head IsUtf8 p ps utf8) z.0) (each_good bs ps ns are both.1 (All-tail IsUtf8 p ps utf8) z.1)
each_good bs ps ns are pieces utf8 z = absurd z

side_good : (bs : List Binding) (ps : List (List ℕ)) (ns : List QName) → AreNamespaces bs → list_all is_piece ps ≡ true → All IsUtf8 ps → IsSide bs ps ns → All IsGood ns
side_good bs ps ns are pieces utf8 side = All-permutation IsGood side.names.spelled ns side.names.same (each_good bs ps side.names.spelled are pieces utf8 side.names.expands)

some_above : (bs : List Binding) (t : List ℕ) (ns : List QName) → IsSide bs (numerator_pieces t) ns → ns ≢ []
unfolding numerator_pieces
some_above bs t ns side = side_some bs (inner (before_first is_slash t)) side.names.spelled ns side.names.expands (length_permutation side.names.spelled ns side.names.same)

both_good : (bs : List Binding) (t : List ℕ) (u : Option Measures) (has : HasSides bs t u) → AreNamespaces bs → IsUtf8 t → (All IsGood has.numerators) × (All IsGood has.denominators)
both_good bs t u has are utf8 =
    let pieces = and_parts (list_all is_piece (numerator_pieces t)) (list_all is_piece (denominator_pieces t)) has.form in
    (side_good bs (numerator_pieces t) has.numerators are pieces.0 (numerators_utf8 t utf8) has.above, side_good bs (denominator_pieces t) has.denominators are pieces.1 (denominators_utf8 t utf8) has.below)

firsts : (ns : List QName) → All IsGood ns → All IsMeasure ns
firsts ns all k d lt = (all k d lt).0

seconds : (ns : List QName) → All IsGood ns → All FitsName ns
seconds ns all k d lt = (all k d lt).1

is_unit : (bs : List Binding) (t : List ℕ) (u : Option Measures) → HasSides bs t u → AreNamespaces bs → IsUtf8 t → IfSome u IsUnit
is_unit bs t u has are utf8 = elim has.made [
  | alone none pure ↦ subst (λ v. IfSome v IsUnit) (sym none) tt
  | unit some apart ↦ subst (λ v. IfSome v IsUnit) (sym some) (let both = both_good bs t u has are utf8 in record {
    numerators = has.above.order;
    denominators = has.below.order;
    multiplied = firsts has.numerators both.0;
    divided = firsts has.denominators both.1;
    some = some_above bs t has.numerators has.above;
    unit = apart;
  })
]

pub unit_is_one : (bs : List Binding) (kind : ConceptKind) (g : Given) (u : Option Measures) → AreNamespaces bs → IsClean g → said_unit bs kind g ≡ Some u → IfSome u IsUnit
unit_is_one bs kind absent u are clean e = let same : None ≡ u = cc in subst (λ v. IfSome v IsUnit) same tt
unit_is_one bs Numeric (text t) u are clean e = is_unit bs t u (sides bs t u e) are (clean t refl)
unit_is_one bs kind g u are clean e = absurd (cc)

measures_fit : (bs : List Binding) (t : List ℕ) (u : Option Measures) → HasSides bs t u → AreNamespaces bs → IsUtf8 t → UnitFits Numeric u
measures_fit bs t u has are utf8 = elim has.made [
  | alone none pure ↦ subst (UnitFits Numeric) (sym none) tt
  | unit some apart ↦ subst (UnitFits Numeric) (sym some) (let both = both_good bs t u has are utf8 in record { numerators = seconds has.numerators both.0; denominators = seconds has.denominators both.1; numeric = refl })
]

pub unit_fits : (bs : List Binding) (kind : ConceptKind) (g : Given) (u : Option Measures) → AreNamespaces bs → IsClean g → said_unit bs kind g ≡ Some u → UnitFits kind u
unit_fits bs kind absent u are clean e = let same : None ≡ u = cc in subst (UnitFits kind) same tt
unit_fits bs Numeric (text t) u are clean e = measures_fit bs t u (sides bs t u e) are (clean t refl)
unit_fits bs kind g u are clean e = absurd (cc)
