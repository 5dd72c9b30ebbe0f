-- The moments of a period that was read are in range, and a duration ends after its start.
use Rattle.oim_dims.proofs.Shared.{◌≡◌, ℕ, ◌<◌, ◌≤◌, true, false, List, length, refl, subst, arith, ℤ, pos, neg_ℤ, ◌<ℤ◌, Option, Some, Result, Ok, Err, nat_le, int_le, int_lt, ◌&&◌, if◌then◌else◌, slice_range, and_parts, leb-true, is_in_range, int_eq, ints, length-take-le, IsBetween, IsCivilDate, days_in_month, signed_arith, Reason, PeriodOrder, Period, Instant, Duration, LAST_MOMENT, from_to, start_part, end_part, IsPeriod, ReadPeriodsArePeriods, after_lt, cond_some, le_from}
use Rattle.oim_dims.specs.DateTime.{has_picture, has_date, has_time, day_number, second_at, moment_of, year, month, day, is_date_time, IsMoment}
use Rattle.oim_dims.proofs.Calendar.{day_range}
use Rattle.oim_dims.proofs.Picture.{pictured_length, pictured_digits}

real_is : (y m d : ℕ) → y < 10_000 → (nat_le 1 y && is_in_range 1 12 m && is_in_range 1 (days_in_month (pos y) m) d) ≡ true → (1 ≤ y) × IsCivilDate (pos y) m d
real_is y m d few h =
    let a = and_parts (nat_le 1 y && is_in_range 1 12 m) (is_in_range 1 (days_in_month (pos y) m) d) h in
    let b = and_parts (nat_le 1 y) (is_in_range 1 12 m) a.0 in
    let c = and_parts (nat_le 1 m) (nat_le m 12) b.1 in
    let e = and_parts (nat_le 1 d) (nat_le d (days_in_month (pos y) m)) a.1 in
    let low : 1 ≤ y = leb-true 1 y b.0 in
    (low, ((omega (arith, signed_arith), omega (arith, signed_arith)), (leb-true 1 m c.0, leb-true m 12 c.1), (leb-true 1 d e.0, leb-true d _ e.1)))

four_digits_at : (t : List ℕ) → has_picture t ≡ true → year t < 10_000
four_digits_at t h =
    let long : length (slice_range t 0 4) ≡ 4 = length-take-le 4 t (omega (arith, pictured_length t h)) in
    rw long at (after_lt 0 (slice_range t 0 4) (pictured_digits t 0 4 h refl))

day_is : (t : List ℕ) → has_picture t ≡ true → has_date t ≡ true → IsBetween (neg_ℤ (pos 719_162)) (pos 2_932_896) (day_number t)
unfolding has_date day_number
day_is t picture h = let r = real_is (year t) (month t) (day t) (four_digits_at t picture) h in day_range (year t) (month t) (day t) r.0 r.1

pub read_moment_is : (t : List ℕ) (z : ℤ) → moment_of t ≡ Some z → IsMoment z
read_moment_is t z h =
    let e = cond_some (is_date_time t) (second_at t) z h in
    let a = and_parts (has_picture t && has_date t && has_time t) (int_le (second_at t) LAST_MOMENT) e.0 in
    let b = and_parts (has_picture t && has_date t) (has_time t) a.0 in
    let c = and_parts (has_picture t) (has_date t) b.0 in
    let day = day_is t c.0 c.1 in
    let within = le_from (second_at t) LAST_MOMENT a.1 in
    let is = e.1 in
    (omega (arith, signed_arith, day.0, is), omega (arith, signed_arith, within, is))

ends : (s e : ℤ) → int_lt e s ≡ false → int_eq s e ≡ false → s <ℤ e
ends s e h k = grind (arith, ints)

from_to_is : (s e : Option ℤ) (p : Period) → ((z : ℤ) → s ≡ Some z → IsMoment z) → ((z : ℤ) → e ≡ Some z → IsMoment z) → from_to s e ≡ Ok p → IsPeriod p
from_to_is (Some s) (Some e) p hs he h =
    elim (int_lt e s) as (λ b. int_lt e s ≡ b → (if b then Err PeriodOrder else (if int_eq s e then Ok (Instant s) else Ok (Duration s e))) ≡ Ok p → IsPeriod p) [
      | true ↦ λ k q. absurd (cc)
      | false ↦ λ k q. elim (int_eq s e) as (λ b. int_eq s e ≡ b → ◌≡◌ {A = Result Period Reason} (if b then Ok (Instant s) else Ok (Duration s e)) (Ok p) → IsPeriod p) [
        | true ↦ λ l r. let is : Instant s ≡ p = cc in subst IsPeriod is (record { moments = hs s refl; forward = tt })
        | false ↦ λ l r. let is : Duration s e ≡ p = cc in subst IsPeriod is (record { moments = (hs s refl, he e refl); forward = ends s e k l })
      ] refl q
    ] refl h
from_to_is o e p hs he h = absurd (cc)

pub read_period_is : ReadPeriodsArePeriods
read_period_is t p h = from_to_is (moment_of (start_part t)) (moment_of (end_part t)) p (read_moment_is (start_part t)) (read_moment_is (end_part t)) h
