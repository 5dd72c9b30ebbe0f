-- The summary of a list of values (own).
use Rattle.std.specs.Prelude.{◌≡◌, ◌↔◌, Bool, true, false, ◌||◌, is_some, IsTrue, List, [], ◌∷◌, Contains, Option, Some, None, IfSome}
use Rattle.std.specs.List.{list_any}
use Rattle.oim_value.specs.Ends.{AreEnds, intervals_of, has_interval}
use Rattle.oim_value.specs.Interval.{common_part, interval}
use Rattle.oim_value.specs.declared.interval.Interval.{Interval}
use Rattle.oim_value.specs.declared.value.Value.{Value}
use Rattle.oim_value.specs.declared.value.Value.TheVariants.{Nil, Number}
use Rattle.merge_laws.specs.Union.{either_or_both}

-- whether one of the values is nil; if there is a number, the greatest low and least high end of the numbers' intervals
pub record Summarised : Type 0 where
  pub nil : Bool
  pub ends : Option Interval

abbrev pub summary_of : Value → Summarised
summary_of Nil = record { nil = true; ends = None }
summary_of (Number units decimals) = record { nil = false; ends = Some (interval units decimals) }
summary_of other = record { nil = false; ends = None }

abbrev pub both_summaries : Summarised → Summarised → Summarised
both_summaries a b = record { nil = a.nil || b.nil; ends = either_or_both common_part a.ends b.ends }

abbrev pub summary_of_all : List Value → Summarised
summary_of_all [] = record { nil = false; ends = None }
summary_of_all (v ∷ vs) = both_summaries (summary_of v) (summary_of_all vs)

-- the summary states whether one of these values is nil, whether one is a number, and the ends of the numbers' intervals
pub record TellsAll (vs : List Value) (s : Summarised) : Type 0 where
  pub nil : IsTrue s.nil ↔ Contains vs Nil
  pub number : is_some s.ends ≡ list_any has_interval vs
  pub ends : IfSome s.ends (λ e. AreEnds e (intervals_of vs))

abbrev pub SummaryTellsAll : Type 0
SummaryTellsAll = (vs : List Value) → TellsAll vs (summary_of_all vs)
