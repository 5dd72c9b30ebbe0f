-- `values_meet` decides `Meets`. Different values meet exactly if they have intervals that meet.
use Rattle.oim_report.proofs.Shared.{◌≡◌, Bool, true, false, ◌&&◌, refl, sym, ap, subst, ◌∙◌, arith, ◌≤ℤ◌, int_le, Option, Some, None, is_eq, Less, Equal, int_max, int_min, Equal-is, both_ways, false≢true, and_parts, and_from, is_eq-slice_cmp, bytes_eq-Decides, exact_name, name_cmp, Interval, Value, Nil, Number, AText, AName, value_cmp, value_cmp_self, both_common, both_meet, interval_at, values_meet, ValuesMeetIsMeets}
use Rattle.std.proofs.lemmas.Int.{ints, clamps}
use Rattle.oim_value.specs.Interval.{common_part, intervals_meet}
use Rattle.oim_value.proofs.Meeting.{meets_is_reflexive, meets_is_symmetric}
use Rattle.oim_value.proofs.Ends.{le_from, le_to}

pub never : {P : Type 0} → false ≡ true → P
never h = absurd (false≢true h)

pub values_meet_is_meets : ValuesMeetIsMeets
values_meet_is_meets Nil Nil = (λ h. tt, λ h. refl)
values_meet_is_meets (Number m d) (Number n e) = (λ h. h, λ h. h)
values_meet_is_meets (AText s) (AText t) = bytes_eq-Decides s t
values_meet_is_meets (AName m) (AName n) = (
  λ h. exact_name m n ((Equal-is (name_cmp m n)).0 h),
  λ same. ap is_eq (subst (λ k. name_cmp m k ≡ Equal) same (value_cmp_self (AName m))),
)
values_meet_is_meets o g = (never, absurd)

pub values_meet_self : (v : Value) → values_meet v v ≡ true
values_meet_self v = (values_meet_is_meets v v).1 (meets_is_reflexive v)

turned : (v w : Value) → values_meet v w ≡ true → values_meet w v ≡ true
turned v w h = (values_meet_is_meets w v).1 (meets_is_symmetric v w ((values_meet_is_meets v w).0 h))

pub values_meet_turns : (v w : Value) → values_meet v w ≡ values_meet w v
values_meet_turns v w = both_ways (values_meet v w) (values_meet w v) (turned v w) (turned w v)

pub lesser_meets : (v w : Value) → value_cmp v w ≡ Less → values_meet v w ≡ both_meet (interval_at v) (interval_at w)
lesser_meets Nil Nil h = cc
lesser_meets (Number m d) (Number n e) h = refl
lesser_meets (AText s) (AText t) h = sym (is_eq-slice_cmp s t) ∙ ap is_eq h
lesser_meets (AName m) (AName n) h = ap is_eq h
lesser_meets v w h = refl

meets_each : (i j k : Interval) → intervals_meet (common_part i j) k ≡ true → (intervals_meet i k && intervals_meet j k) ≡ true
meets_each i j k h =
    let both = and_parts (int_le (int_max i.low j.low) k.high) (int_le k.low (int_min i.high j.high)) h in
    let low : int_max i.low j.low ≤ℤ k.high = le_from _ _ both.0 in
    let high : k.low ≤ℤ int_min i.high j.high = le_from _ _ both.1 in
    and_from _ _ (and_from _ _ (le_to i.low k.high (omega (arith, ints, clamps))) (le_to k.low i.high (omega (arith, ints, clamps))))
    (and_from _ _ (le_to j.low k.high (omega (arith, ints, clamps))) (le_to k.low j.high (omega (arith, ints, clamps))))

meets_common : (i j k : Interval) → (intervals_meet i k && intervals_meet j k) ≡ true → intervals_meet (common_part i j) k ≡ true
meets_common i j k h =
    let both = and_parts (intervals_meet i k) (intervals_meet j k) h in
    let first = and_parts (int_le i.low k.high) (int_le k.low i.high) both.0 in
    let second = and_parts (int_le j.low k.high) (int_le k.low j.high) both.1 in
    let a : i.low ≤ℤ k.high = le_from _ _ first.0 in
    let b : k.low ≤ℤ i.high = le_from _ _ first.1 in
    let c : j.low ≤ℤ k.high = le_from _ _ second.0 in
    let d : k.low ≤ℤ j.high = le_from _ _ second.1 in
    and_from _ _ (le_to (int_max i.low j.low) k.high (omega (arith, ints, clamps))) (le_to k.low (int_min i.high j.high) (omega (arith, ints, clamps)))

never_both : (a : Bool) → false ≡ (a && false)
never_both true = refl
never_both false = refl

pub both_meet-both_common : (a b c : Option Interval) → both_meet (both_common a b) c ≡ (both_meet a c && both_meet b c)
both_meet-both_common (Some i) (Some j) (Some k) = both_ways _ _ (meets_each i j k) (meets_common i j k)
both_meet-both_common (Some i) None (Some k) = never_both (intervals_meet i k)
both_meet-both_common a b c = refl
