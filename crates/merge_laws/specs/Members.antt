-- Laws of sets, maps and summaries (own).
use Rattle.std.specs.Prelude.{◌≡◌, ◌↔◌, Bool, IsTrue, List, [], ◌∷◌, ◌++◌, Contains}
use Rattle.std.specs.List.{AllPass}
use Rattle.std.specs.declared.cmp.Ordering.{Ordering}
use Rattle.std.specs.declared.cmp.Ordering.TheVariants.{Equal}
use Rattle.oim_value.specs.declared.value.Value.{Value}
use Rattle.merge_laws.specs.Ends.{summary_of, both_summaries, summary_of_all}
use Rattle.merge_laws.specs.Sorted.{IsRising, IsSet, entry_key, value_at}
use Rattle.merge_laws.specs.Union.{map_with, map_union, set_union}

-- the lists have the same members, in any order and with any repetition
abbrev pub SameMembers : {A : Type 0} → List A → List A → Type 0
SameMembers {A} xs ys = (x : A) → Contains xs x ↔ Contains ys x

-- sets with the same members are equal
abbrev pub SetIsItsMembers : {K : Type 0} → (K → K → Ordering) → Type 0
SetIsItsMembers {K} R = (xs ys : List K) → IsSet R xs → IsSet R ys → SameMembers xs ys → xs ≡ ys

-- two maps are equal if, at each key, both have the same value or both have none
abbrev pub MapIsItsValues : {K : Type 0} → (K → K → Ordering) → Type 0 → Type 0
MapIsItsValues {K} R V = (es fs : List (K × V)) → IsRising R entry_key es → IsRising R entry_key fs → ((k : K) → value_at R k es ≡ value_at R k fs) → es ≡ fs

module _ {K V : Type 0} (R : K → K → Ordering) (merged : V → V → V) where
  -- the merge of two values at one key passes a test if both values pass it
  abbrev pub MergesKeep : (K × V → Bool) → Type 0
  MergesKeep test = (k : K) (v w : V) → IsTrue (test (k, v)) → IsTrue (test (k, w)) → IsTrue (test (k, merged v w))

  -- if all entries of two maps pass a test that merging keeps, all entries of their union pass it
  abbrev pub MapUnionKeeps : Type 0
  MapUnionKeeps = (test : K × V → Bool) → MergesKeep test → (es fs : List (K × V)) → AllPass test es → AllPass test fs → AllPass test (map_union R merged es fs)

  -- if all entries of a map and a new entry pass a test that merging keeps, all entries after `put` pass it
  abbrev pub MapWithKeeps : Type 0
  MapWithKeeps = (test : K × V → Bool) → MergesKeep test → (es : List (K × V)) (k : K) (v : V) → AllPass test es → IsTrue (test (k, v)) → AllPass test (map_with R merged k v es)

abbrev pub SummaryOfOne : Type 0
SummaryOfOne = (v : Value) → summary_of_all (v ∷ []) ≡ summary_of v

-- the summary of two concatenated lists is the merge of their summaries
abbrev pub SummaryOfBoth : Type 0
SummaryOfBoth = (vs ws : List Value) → summary_of_all (vs ++ ws) ≡ both_summaries (summary_of_all vs) (summary_of_all ws)

-- the summary of the union of two sets is the merge of their summaries; the sets may have any order in which only equal values
-- compare as equal
abbrev pub SummaryOfUnion : Type 0
SummaryOfUnion = (R : Value → Value → Ordering) → ((v w : Value) → R v w ≡ Equal → v ≡ w) → (vs ws : List Value) → summary_of_all (set_union R vs ws) ≡ both_summaries (summary_of_all vs) (summary_of_all ws)

-- lists with the same members have the same summary
abbrev pub SummaryOfMembers : Type 0
SummaryOfMembers = (vs ws : List Value) → SameMembers vs ws → summary_of_all vs ≡ summary_of_all ws
