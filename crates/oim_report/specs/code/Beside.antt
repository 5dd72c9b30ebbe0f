-- The level that a value requires beside smaller or equal values with the same dimensions (own).
use Rattle.std.specs.Prelude.{Bool, false, Option, Some, None, if◌then◌else◌}
use Rattle.std.specs.Ordering.{is_eq}
use Rattle.oim_value.specs.Interval.{common_part, interval, intervals_meet}
use Rattle.oim_value.specs.ValueOrder.{value_cmp}
use Rattle.oim_value.specs.declared.interval.Interval.{Interval}
use Rattle.oim_value.specs.declared.level.Level.{Level}
use Rattle.oim_value.specs.declared.level.Level.TheVariants.{Complete, Consistent, All}
use Rattle.oim_value.specs.declared.value.Value.{Value}
use Rattle.oim_value.specs.declared.value.Value.TheVariants.{Number}

abbrev pub interval_at : Value → Option Interval
interval_at (Number units decimals) = Some (interval units decimals)
interval_at other = None

abbrev pub both_common : Option Interval → Option Interval → Option Interval
both_common (Some i) (Some j) = Some (common_part i j)
both_common i j = None

abbrev pub both_meet : Option Interval → Option Interval → Bool
both_meet (Some i) (Some j) = intervals_meet i j
both_meet i j = false

-- the level that v requires beside other values. `last` is the greatest of the other values. `common` is the common part of their
-- intervals, or None if one of them is not a number. The level of all values is the greater of this level and the level of the
-- other values.
abbrev pub level_beside : Value → Option Interval → Value → Level
level_beside last common v = if is_eq (value_cmp last v) then Complete else (if both_meet common (interval_at v) then Consistent else All)
