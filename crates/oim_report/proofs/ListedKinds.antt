-- The maps of an accepted sheet have exactly the names and kinds in the sheet's members `concepts` and `dimensions`.
use Rattle.oim_report.proofs.Shared.{◌≡◌, ◌⊎◌, inl, inr, ℕ, List, [], ◌∷◌, ◌++◌, Bool, true, false, cond, not, Option, Some, None, Ok, refl, sym, ap, subst, ◌∙◌, ◌↔◌, option_map_or, list_any, eq_by_cmp, or_parts, QName, name_cmp, is_name, Binding, Reason, SheetKind, Data, Members, no_members, member, any_in, json, least, named, unless}
use Rattle.std.specs.FinMap as map
use Rattle.std.specs.FinMap.{find, get-from_entries}
use Rattle.oim_report.specs.code.KindLaws.{same_concept_kind_is, same_dimension_kind_is}
use Rattle.oim_report.specs.Listed.{ConceptsAreListed, DimensionsAreListed, SaysKind, StandsIn}
use Rattle.oim_report.specs.Sheet.{Sheet, concept_kind_named, dimension_kind_named, entries_in, entry, has_bad_kind, has_other_kind, has_two_kinds, kind_in, listed, names_no_kind, said_sheet, same_concept_kind, same_dimension_kind, sheet_bindings, sheet_concepts, sheet_dimensions, sheet_holds, sheet_of, sheet_outcome}
use Rattle.oim_report.proofs.LeastOf.{none_is}
use Rattle.oim_report.proofs.Naming.{expanded, stands}
use Rattle.oim_report.proofs.SheetEntries.{name_total, tied}

module _ {K : Type 0} (kind_named : List ℕ → Option K) (same : K → K → Bool) (same_is : (k l : K) → same k l ≡ true → k ≡ l) (bs : List Binding) where
  -- ---- each entry of the map is in the member

  by_tie : (b : Bool) (n m : QName) (j k : K) (rest : Option K) → eq_by_cmp name_cmp n m ≡ b → cond b (Some j) rest ≡ Some k → ((Some m ≡ Some n) × (Some j ≡ Some k)) ⊎ (rest ≡ Some k)
  by_tie true n m j k rest t e = inl (ap Some (sym (tied true n m t refl)), e)
  by_tie false n m j k rest t e = inr e

  at_entry : (o : Option QName) (p : Option K) (es : List (QName × K)) (n : QName) (k : K) → find name_cmp n (entry kind_named same o p ++ es) ≡ Some k → ((o ≡ Some n) × (p ≡ Some k)) ⊎ (find name_cmp n es ≡ Some k)
  at_entry (Some m) (Some j) es n k e = by_tie (eq_by_cmp name_cmp n m) n m j k (find name_cmp n es) refl e
  at_entry o p es n k e = inr e

  later : (key : List ℕ) (d : Data) (ms : Members) (n : QName) (k : K) → SaysKind kind_named bs ms n k → SaysKind kind_named bs (member key d ms) n k
  later key d ms n k s = record { key = s.key; value = s.value; stands = inr s.stands; name = s.name; kind = s.kind }

  is_said : (ms : Members) (n : QName) (k : K) → find name_cmp n (entries_in kind_named same bs ms) ≡ Some k → SaysKind kind_named bs ms n k
  is_said no_members n k e = absurd (cc)
  is_said (member key d ms) n k e = elim (at_entry (named bs key) (kind_in kind_named same d) (entries_in kind_named same bs ms) n k e) [
    | inl here ↦ record { key = key; value = d; stands = inl (refl, refl); name = stands is_name bs key n here.0; kind = here.1 }
    | inr there ↦ later key d ms n k (is_said ms n k there)
  ]

  -- ---- each entry of the member is in the map

  past_entry : (test : QName × K → Bool) (o : Option QName) (p : Option K) (es : List (QName × K)) → list_any test (entry kind_named same o p ++ es) ≡ false → list_any test es ≡ false
  past_entry test (Some m) (Some j) es e = (or_parts (test (m, j)) (list_any test es) e).1
  past_entry test o p es e = e

  none_passes : (test : QName × K → Bool) (ms : Members) (key : List ℕ) (value : Data) (n : QName) (k : K) → StandsIn key value ms → named bs key ≡ Some n → kind_in kind_named same value ≡ Some k → list_any test (entries_in kind_named same bs ms) ≡ false → test (n, k) ≡ false
  none_passes test no_members key value n k stands name kind e = absurd stands
  none_passes test (member l d ms) key value n k (inl is) name kind e =
      let name_there : named bs l ≡ Some n = ap (named bs) (sym is.0) ∙ name in
      let kind_there : kind_in kind_named same d ≡ Some k = ap (kind_in kind_named same) (sym is.1) ∙ kind in
      let first : entry kind_named same (named bs l) (kind_in kind_named same d) ≡ (n, k) ∷ [] = rw (name_there, kind_there) refl in
      (or_parts (test (n, k)) (list_any test (entries_in kind_named same bs ms)) (ap (λ x. list_any test (x ++ entries_in kind_named same bs ms)) (sym first) ∙ e)).0
  none_passes test (member l d ms) key value n k (inr stands) name kind e =
      none_passes test ms key value n k stands name kind (past_entry test (named bs l) (kind_in kind_named same d) (entries_in kind_named same bs ms) e)

  one_kind : (o : Option K) (k : K) → not (option_map_or (same k) o false) ≡ false → o ≡ Some k
  one_kind None k e = absurd (cc)
  one_kind (Some j) k e = ap Some (sym (same_is k j (was_true (same k j) e)))
    where
      was_true : (b : Bool) → not b ≡ false → b ≡ true
      was_true true h = refl
      was_true false h = absurd (cc)

  is_had : (ms : Members) (n : QName) (k : K) → has_two_kinds kind_named same bs ms ≡ false → SaysKind kind_named bs ms n k → map.get (listed kind_named same bs ms) n ≡ Some k
  is_had ms n k none s =
      one_kind (map.get (listed kind_named same bs ms) n) k
      (none_passes (has_other_kind kind_named same (listed kind_named same bs ms)) ms s.key s.value n k s.stands (expanded is_name bs s.key n s.name) s.kind none)

  pub listed_is_said : (ms : Members) (n : QName) (k : K) → has_bad_kind kind_named same bs ms ≡ false → (map.get (listed kind_named same bs ms) n ≡ Some k) ↔ SaysKind kind_named bs ms n k
  listed_is_said ms n k good = (
    (λ e. is_said ms n k (sym (get-from_entries name_total (entries_in kind_named same bs ms) n) ∙ e)),
    (λ s. is_had ms n k (or_parts (any_in (names_no_kind kind_named same) (Some ms)) (has_two_kinds kind_named same bs ms) good).1 s),
  )

kinds_good : (tree : Data) → least (sheet_holds tree) ≡ None → (has_bad_kind concept_kind_named same_concept_kind (sheet_bindings tree) (sheet_concepts tree) ≡ false) × (has_bad_kind dimension_kind_named same_dimension_kind (sheet_bindings tree) (sheet_dimensions tree) ≡ false)
unfolding sheet_holds
kinds_good tree e = or_parts _ _ ((none_is (sheet_holds tree)).0 e SheetKind)

accepted : (refusal : Option Reason) (said sheet : Sheet) → unless refusal said ≡ Ok sheet → (refusal ≡ None) × (said ≡ sheet)
accepted None said sheet e = (refl, cc)
accepted (Some r) said sheet e = absurd (cc)

is_accepted : (bytes : List ℕ) (tree : Data) (sheet : Sheet) → json bytes ≡ Some tree → sheet_outcome bytes ≡ Ok sheet → (least (sheet_holds tree) ≡ None) × (said_sheet tree ≡ sheet)
unfolding sheet_outcome
is_accepted bytes tree sheet read e = accepted (least (sheet_holds tree)) (said_sheet tree) sheet (ap sheet_of (sym read) ∙ e)

pub concepts_are_listed : ConceptsAreListed
concepts_are_listed bytes tree sheet n k read e =
    let a = is_accepted bytes tree sheet read e in
    subst (λ (s : Sheet). (map.get s.concepts n ≡ Some k) ↔ SaysKind concept_kind_named (sheet_bindings tree) (sheet_concepts tree) n k) a.1
    (listed_is_said concept_kind_named same_concept_kind same_concept_kind_is (sheet_bindings tree) (sheet_concepts tree) n k (kinds_good tree a.0).0)

pub dimensions_are_listed : DimensionsAreListed
dimensions_are_listed bytes tree sheet n k read e =
    let a = is_accepted bytes tree sheet read e in
    subst (λ (s : Sheet). (map.get s.dimensions n ≡ Some k) ↔ SaysKind dimension_kind_named (sheet_bindings tree) (sheet_dimensions tree) n k) a.1
    (listed_is_said dimension_kind_named same_dimension_kind same_dimension_kind_is (sheet_bindings tree) (sheet_dimensions tree) n k (kinds_good tree a.0).1)
