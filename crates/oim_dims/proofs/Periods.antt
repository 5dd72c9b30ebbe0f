-- Texts of periods.
use Rattle.oim_dims.proofs.Shared.{◌≡◌, ℕ, true, false, List, ◌∷◌, ◌++◌, length, refl, sym, subst, arith, ℤ, ◌<ℤ◌, Option, Some, Ok, int_lt, IfSome, position_or_len, list_any, take_all, ints, Period, Forever, Instant, Duration, moment_of, moment_text, IsMoment, is_slash, start_part, period_of, period_text, HasMoments, EndsAfterStart, PeriodsReadBack}
use Rattle.oim_dims.proofs.Cuts.{none_passes, no_index, cut}
use Rattle.oim_dims.proofs.MomentText.{moment_back, moment_has_no}

not_less : (m : ℤ) → int_lt m m ≡ false
not_less m = grind (arith, ints)

one_moment : (t : List ℕ) (m : ℤ) → list_any is_slash t ≡ false → start_part t ≡ t → moment_of t ≡ Some m → period_of t ≡ Ok (Instant m)
one_moment t m none start h = rw (none, start, h, not_less m) refl

pub alone : (t : List ℕ) (m : ℤ) → position_or_len is_slash t ≡ length t → moment_of t ≡ Some m → Ok (Instant m) ≡ period_of t
alone t m whole h = sym (one_moment t m (none_passes is_slash t whole) (rw whole (take_all (length t) t (omega arith))) h)

moment_alone : (m : ℤ) → IsMoment m → period_of (moment_text m) ≡ Ok (Instant m)
moment_alone m h = sym (alone (moment_text m) m (no_index is_slash (moment_text m) (moment_has_no m)) (moment_back m h))

two_moments : (start end : ℤ) → IsMoment start → IsMoment end → start <ℤ end → period_of (moment_text start ++ 47 ∷ moment_text end) ≡ Ok (Duration start end)
two_moments start end s e rises =
    let h = cut is_slash (moment_text start) (moment_text end) 47 (moment_has_no start) refl in
    let later : int_lt end start ≡ false = grind (arith, ints) in
    let earlier : int_lt start end ≡ true = grind (arith, ints) in
    rw (h.some, h.before, h.after, moment_back start s, moment_back end e, later, earlier) refl

pub period_back : PeriodsReadBack
period_back Forever h = tt
period_back (Instant m) h = moment_alone m h.moments
period_back (Duration start end) h = two_moments start end h.moments.0 h.moments.1 h.forward

pub written_back : (p : Period) (t : List ℕ) → Some t ≡ period_text p → HasMoments p → EndsAfterStart p → period_of t ≡ Ok p
written_back p t e moments forward = let P : Option (List ℕ) → Type 0 = λ o. IfSome o (λ u. period_of u ≡ Ok p) in subst P (sym e) (period_back p (record { moments = moments; forward = forward }))
