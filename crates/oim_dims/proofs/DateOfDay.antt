-- Each day of the years 0001 to 9999 has a date.
use Rattle.oim_dims.proofs.Shared.{◌≡◌, ℕ, zero, suc, ◌+◌, ◌<◌, ◌≤◌, Bool, true, false, refl, sym, ◌∙◌, inl, inr, arith, ℤ, pos, neg_ℤ, ◌+ℤ◌, ◌≤ℤ◌, ◌<ℤ◌, int_le, cases_lt, false≢true, ints, days_from_civil, days_in_month, days_in_year, IsCivilDate, IsBetween, day_count-next_year, day_count-next_month, day_count-last_of_year, day_count-day, days_in_month_bounds, days_from_civil-day_count, day_count-end, signed_arith, le_from, le_to}
use Rattle.oim_dims.specs.DateTime.{greatest, year_of, month_of, day_of}
use Rattle.oim_dims.proofs.Calendar.{first_day}

-- g is the greatest number from k to n that passes the test
record IsGreatest (p : ℕ → Bool) (n k g : ℕ) : Type 0 where
  low : k ≤ g
  high : g ≤ n
  here : p g ≡ true
  above : (j : ℕ) → g < j → j ≤ n → p j ≡ false

grown : (p : ℕ → Bool) (n k g : ℕ) → p (suc n) ≡ false → IsGreatest p n k g → IsGreatest p (suc n) k g
grown p n k g miss h = record {
  low = h.low;
  high = omega arith;
  here = h.here;
  above = λ j more within. elim (cases_lt j (suc n)) [
    | inl lt ↦ h.above j more (omega arith)
    | inr le ↦ let e : j ≡ suc n = omega arith in rw e miss
  ];
}

greatest_passes : (p : ℕ → Bool) (n k : ℕ) → 1 ≤ k → k ≤ n → p k ≡ true → IsGreatest p n k (greatest p n)
unfolding greatest
greatest_passes p zero k low high here = absurd (omega arith)
greatest_passes p (suc n) k low high here =
    elim (p (suc n)) as (λ b. p (suc n) ≡ b → IsGreatest p (suc n) k (greatest p (suc n))) [
      | true ↦ λ e. rw e (record { low = high; high = omega arith; here = e; above = λ j more within. absurd (omega arith) })
      | false ↦ λ e. elim (cases_lt k (suc n)) [
        | inl lt ↦ rw e (grown p n k (greatest p n) e (greatest_passes p n k low (omega arith) here))
        | inr le ↦ let same : k ≡ suc n = omega arith in let passes = rw same at here in absurd (false≢true (sym e ∙ passes))
      ]
    ] refl

lt_is : (a b : ℤ) → int_le a b ≡ false → b <ℤ a
lt_is a b h = grind (arith, ints)

-- the day z is in the year found for z
year_holds : (z : ℤ) → IsBetween (neg_ℤ (pos 719_162)) (pos 2_932_896) z → (y : ℕ) → IsGreatest (λ n. int_le (days_from_civil (pos n) 1 1) z) 9999 1 y → (days_from_civil (pos y) 1 1 ≤ℤ z) × (z <ℤ (days_from_civil (pos y) 1 1 +ℤ pos (days_in_year (pos y))))
year_holds z h y g =
    let here : days_from_civil (pos y) 1 1 ≤ℤ z = le_from _ _ g.here in
    let number = days_from_civil-day_count (pos y) 1 1 in
    let next = day_count-next_year (pos y) (pos (y + 1)) (omega (arith, signed_arith)) (omega (arith, signed_arith)) in
    let next_number = days_from_civil-day_count (pos (y + 1)) 1 1 in
    elim (cases_lt y 9999) [
      | inl lt ↦ let past : z <ℤ days_from_civil (pos (y + 1)) 1 1 = lt_is _ _ (g.above (y + 1) (omega arith) (omega arith)) in (here, omega (arith, signed_arith, past, number, next, next_number))
      | inr le ↦ let e : y + 1 ≡ 10000 = omega (arith, g.high) in let end = rw e at next in (here, omega (arith, signed_arith, number, end, day_count-end, h.1))
    ]

-- the day z is in the month found for z
month_holds : (y : ℕ) (z : ℤ) → z <ℤ (days_from_civil (pos y) 1 1 +ℤ pos (days_in_year (pos y))) → (m : ℕ) → IsGreatest (λ n. int_le (days_from_civil (pos y) n 1) z) 12 1 m → (days_from_civil (pos y) m 1 ≤ℤ z) × (z <ℤ (days_from_civil (pos y) m 1 +ℤ pos (days_in_month (pos y) m)))
month_holds y z within m g =
    let here : days_from_civil (pos y) m 1 ≤ℤ z = le_from _ _ g.here in
    let number = days_from_civil-day_count (pos y) m 1 in
    elim (cases_lt m 12) [
      | inl lt ↦ let past : z <ℤ days_from_civil (pos y) (m + 1) 1 = lt_is _ _ (g.above (m + 1) (omega arith) (omega arith)) in (here, omega (arith, signed_arith, past, number, day_count-next_month (pos y) m g.low, days_from_civil-day_count (pos y) (m + 1) 1))
      | inr le ↦ let e : m ≡ 12 = omega (arith, g.high) in let here' = rw e at here in (here, rw e (omega (arith, signed_arith, within, days_from_civil-day_count (pos y) 1 1, days_from_civil-day_count (pos y) 12 1, day_count-last_of_year (pos y), day_count-day (pos y) 12 31 1 (omega arith) (omega arith))))
    ]

-- the day of the month found for z is in the month, and z is the day number of that date
day_holds : (y m : ℕ) (z : ℤ) → z <ℤ (days_from_civil (pos y) m 1 +ℤ pos (days_in_month (pos y) m)) → (n : ℕ) → IsGreatest (λ j. int_le (days_from_civil (pos y) m j) z) 31 1 n → (n ≤ days_in_month (pos y) m) × (days_from_civil (pos y) m n ≡ z)
day_holds y m z within n g =
    let here : days_from_civil (pos y) m n ≤ℤ z = le_from _ _ g.here in
    let number = days_from_civil-day_count (pos y) m n in
    let first = days_from_civil-day_count (pos y) m 1 in
    let from_first = day_count-day (pos y) m n 1 g.low (omega arith) in
    let few = days_in_month_bounds (pos y) m in
    elim (cases_lt n 31) [
      | inl lt ↦
          let past : z <ℤ days_from_civil (pos y) m (n + 1) = lt_is _ _ (g.above (n + 1) (omega arith) (omega arith)) in
          let same : days_from_civil (pos y) m n ≡ z = omega (arith, signed_arith, past, here, number, days_from_civil-day_count (pos y) m (n + 1), day_count-day (pos y) m (n + 1) n (omega arith) g.low) in
          (omega (arith, signed_arith, same, number, first, from_first, within), same)
      | inr le ↦
          (omega (arith, signed_arith, here, number, first, from_first, within), omega (arith, signed_arith, here, number, first, from_first, within, few, g.high))
    ]

-- y, m and d are the date with the day number z
pub record IsDateOf (z : ℤ) (y m d : ℕ) : Type 0 where
  pub first : 1 ≤ y
  pub civil : IsCivilDate (pos y) m d
  pub number : days_from_civil (pos y) m d ≡ z

pub date_of_day : (z : ℤ) → IsBetween (neg_ℤ (pos 719_162)) (pos 2_932_896) z → IsDateOf z (year_of z) (month_of z) (day_of z)
unfolding year_of month_of day_of
date_of_day z h =
    let one : days_from_civil (pos 1) 1 1 ≤ℤ z = omega (arith, signed_arith, h.0, days_from_civil-day_count (pos 1) 1 1, first_day) in
    let y = greatest_passes (λ n. int_le (days_from_civil (pos n) 1 1) z) 9999 1 (omega arith) (omega arith) (le_to _ _ one) in
    let in_year = year_holds z h (year_of z) y in
    let m = greatest_passes (λ n. int_le (days_from_civil (pos (year_of z)) n 1) z) 12 1 (omega arith) (omega arith) (le_to _ _ in_year.0) in
    let in_month = month_holds (year_of z) z in_year.1 (month_of z) m in
    let d = greatest_passes (λ n. int_le (days_from_civil (pos (year_of z)) (month_of z) n) z) 31 1 (omega arith) (omega arith) (le_to _ _ in_month.0) in
    let on_day = day_holds (year_of z) (month_of z) z in_month.1 (day_of z) d in
    record { first = y.low; civil = ((omega (arith, signed_arith), omega (arith, signed_arith, y.high)), (m.low, m.high), (d.low, on_day.0)); number = on_day.1 }
