-- The text of a moment denotes that moment.
use Rattle.oim_dims.proofs.Shared.{◌≡◌, ℕ, ◌+◌, ◌*◌, ◌/◌, ◌%◌, ◌<◌, true, List, ◌∷◌, ◌++◌, refl, arith, ℤ, pos, negsuc, neg_ℤ, ◌+ℤ◌, ◌*ℤ◌, false, Some, unsigned_abs, nat_le, ◌&&◌, int_div_euclid, int_rem_euclid, nat_tests, list_any, digit_value, days_from_civil, IsBetween, days_in_month_bounds, signed_arith, DAY_SECONDS, LAST_MOMENT, is_slash, le_to}
use Rattle.oim_dims.specs.DateTime.{two_digits, four_digits, has_picture, has_date, has_time, day_number, second_of_day, number, moment_of, moment_text, date_text, time_text, year_of, month_of, day_of, IsMoment}
use Rattle.oim_dims.proofs.Calendar.{is_real}
use Rattle.oim_dims.proofs.DateOfDay.{IsDateOf, date_of_day}
use Rattle.oim_value.proofs.PlainLemmas.{digit_of as is_digit}

abbrev spelled : ℕ → ℕ → ℕ → ℕ → ℕ → ℕ → List ℕ
spelled y m d h n s = four_digits y ++ 45 ∷ two_digits m ++ 45 ∷ two_digits d ++ 84 ∷ two_digits h ++ 58 ∷ two_digits n ++ 58 ∷ two_digits s

digit_of : (k : ℕ) → k < 10 → digit_value (48 + k) ≡ k
digit_of k h = grind (arith, nat_tests)

tens : (n : ℕ) → n < 100 → n / 10 < 10
tens n h = omega arith

ones : (n : ℕ) → n % 10 < 10
ones n = omega arith

pictured : (y m d h n s : ℕ) → y < 10000 → m < 100 → d < 100 → h < 100 → n < 100 → s < 100 → has_picture (spelled y m d h n s) ≡ true
unfolding has_picture
pictured y m d h n s hy hm hd hh hn hs =
    rw (is_digit (y / 100 / 10) (tens (y / 100) (omega arith)), is_digit (y / 100 % 10) (ones (y / 100)), is_digit (y % 100 / 10) (tens (y % 100) (omega arith)), is_digit (y % 100 % 10) (ones (y % 100)), is_digit (m / 10) (tens m hm), is_digit (m % 10) (ones m), is_digit (d / 10) (tens d hd), is_digit (d % 10) (ones d), is_digit (h / 10) (tens h hh), is_digit (h % 10) (ones h), is_digit (n / 10) (tens n hn), is_digit (n % 10) (ones n), is_digit (s / 10) (tens s hs), is_digit (s % 10) (ones s)) refl

year_back : (y m d h n s : ℕ) → y < 10000 → number (spelled y m d h n s) 0 4 ≡ y
year_back y m d h n s hy =
    rw (digit_of (y / 100 / 10) (tens (y / 100) (omega arith)), digit_of (y / 100 % 10) (ones (y / 100)), digit_of (y % 100 / 10) (tens (y % 100) (omega arith)), digit_of (y % 100 % 10) (ones (y % 100))) (omega arith)

pair_back : (n : ℕ) → n < 100 → (0 * 10 + digit_value (48 + n / 10)) * 10 + digit_value (48 + n % 10) ≡ n
pair_back n h = rw (digit_of (n / 10) (tens n h), digit_of (n % 10) (ones n)) (omega arith)

-- a moment is a day and the time since its start
euclid : (z : ℤ) → int_div_euclid z (pos DAY_SECONDS) *ℤ pos DAY_SECONDS +ℤ pos (unsigned_abs (int_rem_euclid z (pos DAY_SECONDS))) ≡ z
euclid (pos a) = omega (arith, signed_arith)
euclid (negsuc a) = omega (arith, signed_arith)

second_bound : (z : ℤ) → unsigned_abs (int_rem_euclid z (pos DAY_SECONDS)) < DAY_SECONDS
second_bound (pos a) = omega (arith, signed_arith)
second_bound (negsuc a) = omega (arith, signed_arith)

day_bound : (z : ℤ) → IsMoment z → IsBetween (neg_ℤ (pos 719_162)) (pos 2_932_896) (int_div_euclid z (pos DAY_SECONDS))
day_bound (pos a) h = (omega (arith, signed_arith, h.0), omega (arith, signed_arith, h.1))
day_bound (negsuc a) h = (omega (arith, signed_arith, h.0), omega (arith, signed_arith, h.1))

-- z is the time h:n:s on the date y-m-d
record AreParts (z : ℤ) (y m d h n s : ℕ) : Type 0 where
  date : IsDateOf (int_div_euclid z (pos DAY_SECONDS)) y m d
  year_bound : y < 10000
  month_bound : m < 100
  day_bound : d < 100
  hour_bound : h < 24
  minute_bound : n < 60
  second_bound : s < 60
  time : 3600 * h + 60 * n + s ≡ unsigned_abs (int_rem_euclid z (pos DAY_SECONDS))

parts : (z : ℤ) → IsMoment z → let day = int_div_euclid z (pos DAY_SECONDS) in let s = unsigned_abs (int_rem_euclid z (pos DAY_SECONDS)) in AreParts z (year_of day) (month_of day) (day_of day) (s / 3600) (s / 60 % 60) (s % 60)
parts z h =
    let day = int_div_euclid z (pos DAY_SECONDS) in
    let date = date_of_day day (day_bound z h) in
    let few = days_in_month_bounds (pos (year_of day)) (month_of day) in
    let late = second_bound z in
    record {
      date = date;
      year_bound = omega (arith, signed_arith, date.civil.0.1);
      month_bound = omega (arith, date.civil.1);
      day_bound = omega (arith, date.civil.2, few);
      hour_bound = omega arith;
      minute_bound = omega arith;
      second_bound = omega arith;
      time = omega arith;
    }

clock_shows : (h n s : ℕ) → h < 24 → n < 60 → s < 60 → (nat_le n 59 && nat_le s 59 && nat_le (3600 * h + 60 * n + s) DAY_SECONDS) ≡ true
clock_shows h n s hh hn hs = grind (arith, nat_tests)

spelled_back : (z : ℤ) (y m d h n s : ℕ) → IsMoment z → AreParts z y m d h n s → moment_of (spelled y m d h n s) ≡ Some z
unfolding has_date has_time day_number second_of_day
spelled_back z y m d h n s moment p =
    let picture = pictured y m d h n s p.year_bound p.month_bound p.day_bound (omega (arith, p.hour_bound)) (omega (arith, p.minute_bound)) (omega (arith, p.second_bound)) in
    let year = year_back y m d h n s p.year_bound in
    let month = pair_back m p.month_bound in
    let day = pair_back d p.day_bound in
    let hour = pair_back h (omega (arith, p.hour_bound)) in
    let minute = pair_back n (omega (arith, p.minute_bound)) in
    let second = pair_back s (omega (arith, p.second_bound)) in
    let real = is_real y m d p.date.first p.date.civil in
    let same : days_from_civil (pos y) m d *ℤ pos DAY_SECONDS +ℤ pos (3600 * h + 60 * n + s) ≡ z = rw (p.date.number, p.time) (euclid z) in
    let clock = clock_shows h n s p.hour_bound p.minute_bound p.second_bound in
    let within = le_to z LAST_MOMENT moment.1 in
    rw (picture, year, month, day, hour, minute, second, real, clock, same, within) refl

pub moment_back : (z : ℤ) → IsMoment z → moment_of (moment_text z) ≡ Some z
unfolding moment_text date_text time_text
moment_back z h = spelled_back z _ _ _ _ _ _ h (parts z h)

not_slash : (k : ℕ) → is_slash (48 + k) ≡ false
not_slash k = grind (arith, nat_tests)

pub moment_has_no : (z : ℤ) → list_any is_slash (moment_text z) ≡ false
unfolding moment_text date_text time_text
moment_has_no z = simp not_slash
