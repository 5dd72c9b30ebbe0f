-- Moments, as texts and as seconds (XML Schema Part 2, section 3.2.7, `dateTime`).
use Rattle.std.specs.Prelude.{ℕ, zero, suc, ◌+◌, ◌*◌, ◌/◌, ◌%◌, ℤ, pos, ◌+ℤ◌, ◌*ℤ◌, Bool, ◌&&◌, ◌==◌, nat_le, int_le, if◌then◌else◌, List, [], ◌∷◌, ◌++◌, length, slice_range, unsigned_abs, Option, Some, None, codes}
use Rattle.std.specs.List.{list_all, zip}
use Rattle.std.specs.Int.{is_in_range, int_div_euclid, int_rem_euclid}
use Rattle.std.specs.Char.{is_ascii_digit}
use Rattle.std.specs.Str.Parse.{digits_value}
use Rattle.oim_dims.specs.declared.limits.TheConstants.{DAY_SECONDS, FIRST_MOMENT, LAST_MOMENT}
use Rattle.jiff.specs.Words.{IsBetween, days_in_month}
use Rattle.jiff_core.specs.Calendar.{days_from_civil}

-- the form of a date-time (own: no time zone, no fraction of a second); 0 means any digit
abbrev pub picture : List ℕ
picture = codes "0000-00-00T00:00:00"

abbrev pub matches_picture : ℕ × ℕ → Bool
matches_picture e = if e.0 == 48 then is_ascii_digit e.1 else e.1 == e.0

unfoldable pub has_picture : List ℕ → Bool
has_picture t = length t == 19 && list_all matches_picture (zip picture t)

-- the number that the bytes i to j - 1 of a text denote
abbrev pub number : List ℕ → ℕ → ℕ → ℕ
number t i j = digits_value 10 (slice_range t i j)

abbrev pub year : List ℕ → ℕ
year t = number t 0 4

abbrev pub month : List ℕ → ℕ
month t = number t 5 7

abbrev pub day : List ℕ → ℕ
day t = number t 8 10

-- the calendar has the date, and the year is 0001 or later
unfoldable pub has_date : List ℕ → Bool
has_date t =
    nat_le 1 (year t) && is_in_range 1 12 (month t) && is_in_range 1 (days_in_month (pos (year t)) (month t)) (day t)

unfoldable pub second_of_day : List ℕ → ℕ
second_of_day t = 3600 * number t 11 13 + 60 * number t 14 16 + number t 17 19

-- the time is from 00:00:00 to 23:59:59, or is 24:00:00, the end of the day
unfoldable pub has_time : List ℕ → Bool
has_time t = nat_le (number t 14 16) 59 && nat_le (number t 17 19) 59 && nat_le (second_of_day t) DAY_SECONDS

-- the day number of the date, counted from 1970-01-01
unfoldable pub day_number : List ℕ → ℤ
day_number t = days_from_civil (pos (year t)) (month t) (day t)

-- a second of the years 0001 to 9999, counted from 1970-01-01T00:00:00
abbrev pub IsMoment : ℤ → Type 0
IsMoment = IsBetween FIRST_MOMENT LAST_MOMENT

-- the second that a date-time denotes: the seconds of the days counted from 1970-01-01, plus the seconds since midnight
abbrev pub second_at : List ℕ → ℤ
second_at t = day_number t *ℤ pos DAY_SECONDS +ℤ pos (second_of_day t)

-- the text is a date-time, and its second lies in the years 0001 to 9999
abbrev pub is_date_time : List ℕ → Bool
is_date_time t = has_picture t && has_date t && has_time t && int_le (second_at t) LAST_MOMENT

abbrev pub moment_of : List ℕ → Option ℤ
moment_of t = if is_date_time t then Some (second_at t) else None

-- the greatest number from 1 to n that passes the test, or 0 if none does
unfoldable pub greatest : (ℕ → Bool) → ℕ → ℕ
greatest p zero = 0
greatest p (suc n) = if p (suc n) then suc n else greatest p n

-- the year of a day number: the last year up to 9999 that begins on or before that day; likewise for the month and the day
unfoldable pub year_of : ℤ → ℕ
year_of d = greatest (λ y. int_le (days_from_civil (pos y) 1 1) d) 9999

unfoldable pub month_of : ℤ → ℕ
month_of d = greatest (λ m. int_le (days_from_civil (pos (year_of d)) m 1) d) 12

unfoldable pub day_of : ℤ → ℕ
day_of d = greatest (λ n. int_le (days_from_civil (pos (year_of d)) (month_of d) n) d) 31

-- a number below 100 in two digits, and a number below 10000 in four
abbrev pub two_digits : ℕ → List ℕ
two_digits n = (48 + n / 10) ∷ (48 + n % 10) ∷ []

abbrev pub four_digits : ℕ → List ℕ
four_digits n = two_digits (n / 100) ++ two_digits (n % 100)

unfoldable pub date_text : ℤ → List ℕ
date_text d = four_digits (year_of d) ++ 45 ∷ two_digits (month_of d) ++ 45 ∷ two_digits (day_of d)

unfoldable pub time_text : ℕ → List ℕ
time_text s = two_digits (s / 3600) ++ 58 ∷ two_digits (s / 60 % 60) ++ 58 ∷ two_digits (s % 60)

-- the text of a moment, with hours from 00 to 23 (own)
unfoldable pub moment_text : ℤ → List ℕ
moment_text z = date_text (int_div_euclid z (pos DAY_SECONDS)) ++ 84 ∷ time_text (unsigned_abs (int_rem_euclid z (pos DAY_SECONDS)))
