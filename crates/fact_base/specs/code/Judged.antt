-- Values of one dimension set with their summary, as a base stores them (own).
use Rattle.std.specs.Prelude.{◌≡◌, ◌≢◌, ◌||◌, List, [], Contains, Option, Some, None, if◌then◌else◌, int_lt}
use Rattle.std.specs.Option.{option_and_then}
use Rattle.merge_laws.specs.Ends.{Summarised, summary_of_all}
use Rattle.merge_laws.specs.Sorted.{IsSet}
use Rattle.oim_value.specs.SeveralMeet.{AreDifferent}
use Rattle.oim_value.specs.ValueOrder.{kind_order, value_cmp}
use Rattle.oim_value.specs.declared.interval.Interval.{Interval}
use Rattle.oim_value.specs.declared.level.Level.{Level}
use Rattle.oim_value.specs.declared.level.Level.TheVariants.{Unique, Consistent as ConsistentLevel, All as AllLevel}
use Rattle.oim_value.specs.declared.value.Value.{Value}
use Rattle.oim_value.specs.declared.value.Value.TheVariants.{Nil}
use Rattle.fact_base.specs.declared.verdict.Verdict.{Verdict}
use Rattle.fact_base.specs.declared.verdict.Verdict.TheVariants.{Complete, Consistent, Inconsistent}

-- all values that are not nil are of one kind
abbrev pub AreAlike : List Value → Type 0
AreAlike vs = (v w : Value) → Contains vs v → Contains vs w → v ≢ Nil → w ≢ Nil → kind_order v ≡ kind_order w

-- one or more different values in order, and their summary; all values that are not nil are of one kind
pub record AreSummarised (vs : List Value) (told : Summarised) : Type 0 where
  pub some : vs ≢ []
  pub in_order : IsSet value_cmp vs
  pub different : AreDifferent vs
  pub alike : AreAlike vs
  pub summary : told ≡ summary_of_all vs

-- the common part of the values' intervals; None if a value is nil, if no value is a number, or if no number lies in all intervals
abbrev pub shared_by : Summarised → Option Interval
shared_by s = option_and_then (λ ends. if s.nil || int_lt ends.high ends.low then None else Some ends) s.ends

-- the strictest level that allows distinct facts with this verdict
abbrev pub level_at : Verdict → Level
level_at Complete = Unique
level_at Consistent = ConsistentLevel
level_at Inconsistent = AllLevel
