use Rattle.oim_dims.proofs.Shared.{◌≡◌, ◌∙◌, ◌≤◌, ◌&&◌, ℕ, List, ℤ, pos, Some, None, true, nat_le, if◌then◌else◌, ap, arith, is_in_range, ints, days_in_month, days_from_civil}
use Rattle.oim_dims.specs.DateTime.{has_date, day_number, year, month, day}
use Rattle.oim_dims.proofs.Calendar.{date_is, day_range, is_real}
use Rattle.oim_dims.proofs.moment.read_day.Goals as goal

-- the date with the text's numbers has this day number
day_is : (t : List ℕ) (y m d : ℕ) (z : ℤ) → y ≡ year t → m ≡ month t → d ≡ day t → (nat_le 1 y && is_in_range 1 12 m && is_in_range 1 (days_in_month (pos y) m) d) ≡ true → z ≡ days_from_civil (pos y) m d → Some z ≡ (if has_date t then Some (day_number t) else None)
unfolding has_date day_number
day_is t y m d z ey em ed real is = let here = rw (ey, em, ed) at real in let number = rw (ey, em, ed) at is in rw here (ap Some number)

pub returns-in-Ok-clause-day : goal.returns-in-Ok-clause-day
returns-in-Ok-clause-day c =
    let e = date_is c.in-Ok.date c.number-year.result c.number-month.result c.number-day.result c.in-Ok.ensures.value (omega arith) (omega arith) (omega arith) in
    let low : 1 ≤ c.number-year.result = omega (arith, c.if-year-eq0.false) in
    let real = is_real c.number-year.result c.number-month.result c.number-day.result low e.0 in
    let date = c.to_plain.ensures in
    let number = rw date at c.to_unix_epoch_day.ensures.value ∙ e.1 in
    day_is c.args.text.now _ _ _ _ c.number-year.ensures.value c.number-month.ensures.value c.number-day.ensures.value real (omega (arith, ints, number))

pub returns-in-Ok-clause-range : goal.returns-in-Ok-clause-range
returns-in-Ok-clause-range c =
    let e = date_is c.in-Ok.date c.number-year.result c.number-month.result c.number-day.result c.in-Ok.ensures.value (omega arith) (omega arith) (omega arith) in
    let low : 1 ≤ c.number-year.result = omega (arith, c.if-year-eq0.false) in
    let range = day_range c.number-year.result c.number-month.result c.number-day.result low e.0 in
    let date = c.to_plain.ensures in
    let number = rw date at c.to_unix_epoch_day.ensures.value ∙ e.1 in
    (omega (arith, ints, range.0, number), omega (arith, ints, range.1, number))
