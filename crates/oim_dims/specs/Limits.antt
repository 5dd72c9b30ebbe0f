-- The values of the constants for moments (own).
use Rattle.std.specs.Prelude.{◌≡◌, Some, None, codes}
use Rattle.oim_dims.specs.declared.limits.TheConstants.{DAY_SECONDS, FIRST_MOMENT, LAST_MOMENT}
use Rattle.oim_dims.specs.DateTime.{moment_of}

-- a day has 86,400 seconds; moments range from the first to the last second of the years 0001 to 9999; 24:00:00 on the last day
-- is not a moment
pub record LimitsAre : Type 0 where
  pub day : DAY_SECONDS ≡ 86_400
  pub first : moment_of (codes "0001-01-01T00:00:00") ≡ Some FIRST_MOMENT
  pub last : moment_of (codes "9999-12-31T23:59:59") ≡ Some LAST_MOMENT
  pub beyond : moment_of (codes "9999-12-31T24:00:00") ≡ None
