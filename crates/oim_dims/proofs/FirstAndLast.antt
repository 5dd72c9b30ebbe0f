-- The first and the last moment.
use Rattle.oim_dims.proofs.Shared.{◌≡◌, true, List, ℕ, refl, arith, ℤ, pos, neg_ℤ, ◌+ℤ◌, ◌*ℤ◌, Some, None, codes, int_le, if◌then◌else◌, days_from_civil, days_from_civil-day_count, days_from_civil-max, signed_arith, DAY_SECONDS, LAST_MOMENT}
use Rattle.oim_dims.specs.DateTime.{has_picture, has_date, has_time, day_number, second_of_day, moment_of}
use Rattle.oim_dims.specs.Limits.{LimitsAre}
use Rattle.oim_dims.proofs.Calendar.{first_day}

first_number : days_from_civil (pos 1) 1 1 ≡ neg_ℤ (pos 719_162)
first_number = omega (arith, signed_arith, days_from_civil-day_count (pos 1) 1 1, first_day)

-- the moment of a date-time is computed from its day number and its time
of_day : (t : List ℕ) (d : ℤ) → has_picture t ≡ true → has_date t ≡ true → has_time t ≡ true → day_number t ≡ d → let z = d *ℤ pos DAY_SECONDS +ℤ pos (second_of_day t) in moment_of t ≡ (if int_le z LAST_MOMENT then Some z else None)
of_day t d picture date time day = rw (picture, date, time, day) refl

pub limits_are : LimitsAre
unfolding has_picture has_date has_time day_number second_of_day
limits_are = record {
  day = refl;
  first = of_day (codes "0001-01-01T00:00:00") (neg_ℤ (pos 719_162)) refl refl refl first_number;
  last = of_day (codes "9999-12-31T23:59:59") (pos 2_932_896) refl refl refl days_from_civil-max;
  beyond = of_day (codes "9999-12-31T24:00:00") (pos 2_932_896) refl refl refl days_from_civil-max;
}
