-- The day numbers of the years 0001 to 9999.
use Rattle.oim_dims.proofs.Shared.{◌≡◌, ℕ, ◌<◌, ◌≤◌, refl, sym, ap, ◌∙◌, inl, inr, arith, rules, ℤ, pos, negsuc, neg_ℤ, ◌≤ℤ◌, to_z, w8, w16, nat_le, int_le, unsigned_abs, ◌&&◌, Bool, true, false, zero, suc, ◌<ℤ◌, cases_lt, is_in_range, ints, by_lt_z, nat_tests, IsYmd, epoch_day, civil, days_in_month, day_count, days_from_civil, IsCivilDate, IsBetween, day_count-lt_year, day_count-last_of_year, days_in_year_bounds, days_from_civil-day_count, day_count_bounds, day_count-day_of_year, day_count-lt_month, day_count-day, days_in_month_bounds, day_count-epoch, signed_arith, le_to}
use Rattle.oim_dims.specs.DateTime.{greatest, year_of, month_of, day_of, date_text}
use Rattle.jiff.specs.Words.{date_text as jiff_date_text}
use Rattle.jiff_core.specs.declared.civil.date.Date.{Date}
use Rattle.jiff_core.proofs.MarchLemmas.{day_count-early}

pub first_day : day_count (pos 1) 1 1 ≡ 3_652_791
first_day = day_count-early (pos 1) 10000 1 1 refl (omega arith) (omega arith) (omega arith)

zero_day : day_count (pos 0) 1 1 ≡ 3_652_425
zero_day = day_count-early (pos 0) 9999 1 1 refl (omega arith) (omega arith) (omega arith)

-- a date in the year 0001 or later has a day number from -719162 (0001-01-01) to 2932896 (9999-12-31)
pub day_range : (y m d : ℕ) → 1 ≤ y → IsCivilDate (pos y) m d → IsBetween (neg_ℤ (pos 719_162)) (pos 2_932_896) (days_from_civil (pos y) m d)
day_range y m d low h =
    let year_zero : IsCivilDate (pos 0) 12 31 = search rules in
    let before : day_count (pos 0) 12 31 < day_count (pos y) m d = day_count-lt_year (pos 0) 12 31 (pos y) m d year_zero h.2.0 (omega (arith, signed_arith)) in
    let number = days_from_civil-day_count (pos y) m d in
    (omega (arith, signed_arith, before, number, zero_day, day_count-last_of_year (pos 0), days_in_year_bounds (pos 0)), omega (arith, signed_arith, number, day_count_bounds (pos y) m d h))

-- a date that jiff makes from a year, a month and a day is in the calendar, and its day number is computed from these three
pub date_is : (date : Date) (y m d : ℕ) → IsYmd (to_z w16 y) (to_z w8 m) (to_z w8 d) date → y < 10000 → m < 100 → d < 100 → IsCivilDate (pos y) m d × (epoch_day date ≡ days_from_civil (pos y) m d)
date_is date y m d h few_y few_m few_d =
    let ey : date.year ≡ pos y = omega (arith, ints, h.0) in
    let em : date.month ≡ m = omega (arith, ints, h.1) in
    let ed : date.day ≡ d = omega (arith, ints, h.2) in
    (rw (ey, em, ed) at (civil date), rw (ey, em, ed) refl)

pub is_real : (y m d : ℕ) → 1 ≤ y → IsCivilDate (pos y) m d → (nat_le 1 y && is_in_range 1 12 m && is_in_range 1 (days_in_month (pos y) m) d) ≡ true
is_real y m d low h = grind (arith, nat_tests)

le_false : (a b : ℤ) → b <ℤ a → int_le a b ≡ false
le_false a b h = grind (arith, ints)

greatest_is : (p : ℕ → Bool) (n k : ℕ) → k ≤ n → 1 ≤ k → p k ≡ true → ((j : ℕ) → k < j → j ≤ n → p j ≡ false) → greatest p n ≡ k
unfolding greatest
greatest_is p zero k h low here above = absurd (omega arith)
greatest_is p (suc n) k h low here above =
    elim (cases_lt k (suc n)) [
      | inl lt ↦ rw (above (suc n) lt (omega arith)) (greatest_is p n k (omega arith) low here (λ j a b. above j a (omega arith)))
      | inr le ↦ let e : k ≡ suc n = omega arith in let passes = rw e at here in rw passes (sym e)
    ]

earlier : (a b : ℤ) (m d n e : ℕ) → day_count a m d < day_count b n e → days_from_civil a m d <ℤ days_from_civil b n e
earlier a b m d n e h = omega (arith, signed_arith, days_from_civil-day_count a m d, days_from_civil-day_count b n e)

no_later : (a b : ℤ) (m d n e : ℕ) → day_count a m d ≤ day_count b n e → days_from_civil a m d ≤ℤ days_from_civil b n e
no_later a b m d n e h = omega (arith, signed_arith, days_from_civil-day_count a m d, days_from_civil-day_count b n e)

-- a date in the year 0001 or later has the year, month and day that are computed from its day number
pub year_is : (y m d : ℕ) → 1 ≤ y → IsCivilDate (pos y) m d → year_of (days_from_civil (pos y) m d) ≡ y
unfolding year_of
year_is y m d low h =
    greatest_is _ 9999 y (omega (arith, signed_arith, h.0)) low
    (le_to _ _ (no_later (pos y) (pos y) 1 1 m d (omega (arith, day_count-day_of_year (pos y) m d h.2.0))))
    (λ j more within. le_false _ _ (earlier (pos y) (pos j) m d 1 1 (day_count-lt_year (pos y) m d (pos j) 1 1 h (omega arith) (omega (arith, signed_arith)))))

pub month_is : (y m d : ℕ) → 1 ≤ y → IsCivilDate (pos y) m d → month_of (days_from_civil (pos y) m d) ≡ m
unfolding month_of
month_is y m d low h =
    rw (year_is y m d low h)
    (greatest_is _ 12 m h.1.1 h.1.0
    (le_to _ _ (no_later (pos y) (pos y) m 1 m d (omega (arith, day_count-day (pos y) m d 1 h.2.0 (omega arith)))))
    (λ j more within. le_false _ _ (earlier (pos y) (pos y) m d j 1 (day_count-lt_month (pos y) m d j 1 h (omega arith) more))))

pub day_is : (y m d : ℕ) → 1 ≤ y → IsCivilDate (pos y) m d → day_of (days_from_civil (pos y) m d) ≡ d
unfolding day_of
day_is y m d low h =
    rw (year_is y m d low h, month_is y m d low h)
    (greatest_is _ 31 d (omega (arith, h.2.1, days_in_month_bounds (pos y) m)) h.2.0
    (le_to _ _ (no_later (pos y) (pos y) m d m d (omega arith)))
    (λ j more within. le_false _ _ (earlier (pos y) (pos y) m d m j (omega (arith, day_count-day (pos y) m d j h.2.0 (omega arith))))))

positive : (z : ℤ) → pos 1 ≤ℤ z → (z ≡ pos (unsigned_abs z)) × (1 ≤ unsigned_abs z)
positive (pos n) h = (refl, omega (arith, signed_arith))
positive (negsuc n) h = absurd (omega (arith, signed_arith))

-- a date of jiff in the year 0001 or later has the year, month and day that are computed from its day number
pub date_parts : (date : Date) (z : ℤ) → epoch_day date ≡ z → neg_ℤ (pos 719_162) ≤ℤ z → (date.year ≡ pos (year_of z)) × (date.month ≡ month_of z) × (date.day ≡ day_of z)
date_parts date z is low =
    let h = civil date in
    let y = unsigned_abs date.year in
    let number = days_from_civil-day_count date.year date.month date.day in
    let same : epoch_day date ≡ z = is in
    let some : pos 1 ≤ℤ date.year = by_lt_z date.year (pos 1)
    (λ lt. absurd (omega (arith, signed_arith, number, same, first_day, day_count-lt_year date.year date.month date.day (pos 1) 1 1 h (omega arith) lt)))
    (λ le. le) in
    let e : date.year ≡ pos y = (positive date.year some).0 in
    let real : IsCivilDate (pos y) date.month date.day = rw e at h in
    let here : days_from_civil (pos y) date.month date.day ≡ z = rw e at is in
    let first : 1 ≤ y = (positive date.year some).1 in
    (e ∙ ap pos (sym (year_is y date.month date.day first real) ∙ ap year_of here), sym (month_is y date.month date.day first real) ∙ ap month_of here, sym (day_is y date.month date.day first real) ∙ ap day_of here)

pub epoch_is_zero : (date : Date) → IsYmd (pos 1970) (pos 1) (pos 1) date → epoch_day date ≡ pos 0
epoch_is_zero date h =
    let ey : date.year ≡ pos 1970 = h.0 in
    let em : date.month ≡ 1 = omega (arith, signed_arith, h.1) in
    let ed : date.day ≡ 1 = omega (arith, signed_arith, h.2) in
    rw (ey, em, ed) (omega (arith, signed_arith, days_from_civil-day_count (pos 1970) 1 1, day_count-epoch))

-- jiff writes a date in the year 0001 or later as `date_text` does
pub text_of_date : (date : Date) (z : ℤ) → epoch_day date ≡ z → neg_ℤ (pos 719_162) ≤ℤ z → jiff_date_text date ≡ date_text z
unfolding date_text
text_of_date date z is low = let p = date_parts date z is low in rw (p.0, p.1, p.2) refl
