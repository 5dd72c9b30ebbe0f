-- Facts that were read in pieces, with their identifiers (own).
use Rattle.std.specs.Prelude.{◌≡◌, ℕ, List, [], ◌∷◌, Bool, true, false, if◌then◌else◌, Option, Some, None, Ok, ⊤}
use Rattle.std.specs.Ordering.{nat_cmp, is_lt}
use Rattle.std.specs.Cmp.Lexicographic.{slice_cmp}
use Rattle.oim_names.specs.Bindings.{Binding}
use Rattle.oim_dims.specs.declared.fact.Fact.{Fact}
use Rattle.serde_json.specs.Data.{Data, Members, no_members, member}
use Rattle.oim_report.specs.Outcome.{fact_outcome}
use Rattle.oim_report.specs.Sheet.{Sheet}

-- the lists are the keys of the members, and for each member's value an item, which `says` relates to it
abbrev pub AreRelated : {X : Type 0} → (Data → X → Type 0) → Members → List (List ℕ) → List X → Type 0
AreRelated says no_members [] [] = ⊤
AreRelated says no_members [] (x ∷ xs) = ⊥
AreRelated says no_members (s ∷ ss) xs = ⊥
AreRelated says (member k d ms) [] xs = ⊥
AreRelated says (member k d ms) (s ∷ ss) [] = ⊥
AreRelated says (member k d ms) (s ∷ ss) (x ∷ xs) = (s ≡ k) × says d x × AreRelated says ms ss xs

-- the lists are the keys of the members and the facts that the members' values denote
abbrev pub AreFound : Sheet → List Binding → Members → List (List ℕ) → List Fact → Type 0
AreFound sheet bs ms ids facts = AreRelated (λ d f. fact_outcome sheet bs d ≡ Ok f) ms ids facts

-- the members of both
abbrev pub append : Members → Members → Members
append no_members ns = ns
append (member k d ms) ns = member k d (append ms ns)

abbrev pub is_above : Option (List ℕ) → List ℕ → Bool
is_above None key = true
is_above (Some last) key = is_lt (slice_cmp nat_cmp last key)

-- the keys ascend strictly; if `last` is not None, the first key is greater than `last`
abbrev pub rise_after : Option (List ℕ) → List (List ℕ) → Bool
rise_after last [] = true
rise_after last (s ∷ ss) = if is_above last s then rise_after (Some s) ss else false
