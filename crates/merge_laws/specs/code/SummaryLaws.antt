-- The laws of summaries (own).
use Rattle.std.specs.Prelude.{◌≡◌, Bool, true, false, ◌||◌, Option, Some, None, refl}
use Rattle.std.proofs.Common.{ap}
use Rattle.oim_value.proofs.Intervals.{common_is_associative, common_is_commutative, common_is_idempotent}
use Rattle.oim_value.specs.Interval.{common_part}
use Rattle.oim_value.specs.declared.interval.Interval.{Interval}
use Rattle.merge_laws.specs.Ends.{Summarised, both_summaries}
use Rattle.merge_laws.specs.Union.{either_or_both}

or_associates : (a b c : Bool) → ((a || b) || c) ≡ (a || (b || c))
or_associates true b c = refl
or_associates false b c = refl

or_commutes : (a b : Bool) → (a || b) ≡ (b || a)
or_commutes true true = refl
or_commutes true false = refl
or_commutes false true = refl
or_commutes false false = refl

or_same : (a : Bool) → (a || a) ≡ a
or_same true = refl
or_same false = refl

ends_associate : (a b c : Option Interval) → either_or_both common_part (either_or_both common_part a b) c ≡ either_or_both common_part a (either_or_both common_part b c)
ends_associate None b c = refl
ends_associate (Some x) None c = refl
ends_associate (Some x) (Some y) None = refl
ends_associate (Some x) (Some y) (Some z) = ap Some (common_is_associative x y z)

ends_commute : (a b : Option Interval) → either_or_both common_part a b ≡ either_or_both common_part b a
ends_commute None None = refl
ends_commute None (Some y) = refl
ends_commute (Some x) None = refl
ends_commute (Some x) (Some y) = ap Some (common_is_commutative x y)

ends_same : (a : Option Interval) → either_or_both common_part a a ≡ a
ends_same None = refl
ends_same (Some x) = ap Some (common_is_idempotent x)

pub summary_associates : (a b c : Summarised) → both_summaries (both_summaries a b) c ≡ both_summaries a (both_summaries b c)
summary_associates a b c = λ i. record { nil = or_associates a.nil b.nil c.nil i; ends = ends_associate a.ends b.ends c.ends i }

pub summary_commutes : (a b : Summarised) → both_summaries a b ≡ both_summaries b a
summary_commutes a b = λ i. record { nil = or_commutes a.nil b.nil i; ends = ends_commute a.ends b.ends i }

pub summary_idempotent : (a : Summarised) → both_summaries a a ≡ a
summary_idempotent a = λ i. record { nil = or_same a.nil i; ends = ends_same a.ends i }
