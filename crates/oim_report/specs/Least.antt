-- A sheet, document or fact is refused for the lowest-numbered condition that applies to it. The faults of a document or fact
-- are all conditions that apply to it and are not hidden (own).
use Rattle.std.specs.Prelude.{◌≡◌, ◌↔◌, ◌≤◌, List, [], ◌∷◌, map, Contains, Bool, false, not, ◌&&◌, IsTrue, Option, Some, None}
use Rattle.std.specs.List.{filter, find, list_any}
use Rattle.std.specs.List.Sorted.{IsStrictlyIncreasing}
use Rattle.oim_names.specs.Reasons.{entry_of, reasons}
use Rattle.oim_names.specs.declared.reason.Reason.{Reason}
use Rattle.oim_names.specs.declared.reason.Reason.TheVariants.{Namespace, Feature}

-- the lowest-numbered condition that applies, or None (`reasons` is sorted by number)
unfoldable pub least : (Reason → Bool) → Option Reason
least holds = find holds reasons

-- the conditions that hide a condition: `Namespace` hides `Feature`, because the prefixes decide which member is the feature
abbrev pub hidden_by : Reason → List Reason
hidden_by Feature = Namespace ∷ []
hidden_by r = []

-- the condition applies, and no condition that hides it applies
abbrev pub is_shown : (Reason → Bool) → Reason → Bool
is_shown holds r = not (list_any holds (hidden_by r)) && holds r

-- the conditions that are shown, by number
unfoldable pub told : (Reason → Bool) → List Reason
told holds = filter (is_shown holds) reasons

-- ---- laws

-- the condition applies, and no condition with a smaller number applies
pub record IsLeast (holds : Reason → Bool) (r : Reason) : Type 0 where
  pub holding : IsTrue (holds r)
  pub before : (s : Reason) → IsTrue (holds s) → (entry_of r).number ≤ (entry_of s).number

-- the condition applies, and no condition that hides it applies
pub record IsShown (holds : Reason → Bool) (r : Reason) : Type 0 where
  pub holding : IsTrue (holds r)
  pub alone : (s : Reason) → Contains (hidden_by r) s → holds s ≡ false

abbrev pub first : List Reason → Option Reason
first [] = None
first (r ∷ rs) = Some r

-- `least` returns the lowest-numbered condition that applies. `told` lists exactly the conditions that are shown, by ascending
-- number, and begins with the condition that `least` returns.
pub record Answers (holds : Reason → Bool) : Type 0 where
  pub some : (r : Reason) → (least holds ≡ Some r) ↔ IsLeast holds r
  pub none : (least holds ≡ None) ↔ ((r : Reason) → holds r ≡ false)
  pub told_hold : (r : Reason) → Contains (told holds) r ↔ IsShown holds r
  pub told_rise : IsStrictlyIncreasing (map (λ r. (entry_of r).number) (told holds))
  pub told_first : first (told holds) ≡ least holds

abbrev pub LeastIsAnswered : Type 0
LeastIsAnswered = (holds : Reason → Bool) → Answers holds
