-- Periods (OIM 1.0, the core dimension period; OIM Common 1.0, periods as one date-time or two).
use Rattle.std.specs.Prelude.{◌≡◌, ℕ, ℤ, int_lt, if◌then◌else◌, List, ◌∷◌, ◌++◌, Option, Some, None, Result, Ok, Err, ⊤, ◌<ℤ◌, IfSome}
use Rattle.std.specs.Ordering.{int_eq}
use Rattle.std.specs.List.{list_any, before_first, after_first}
use Rattle.oim_names.specs.declared.reason.Reason.{Reason}
use Rattle.oim_names.specs.declared.reason.Reason.TheVariants.{PeriodForm, PeriodOrder}
use Rattle.oim_dims.specs.declared.period.Period.{Period}
use Rattle.oim_dims.specs.declared.period.Period.TheVariants.{Forever, Instant, Duration}
use Rattle.oim_dims.specs.Separators.{is_slash}
use Rattle.oim_dims.specs.DateTime.{moment_of, moment_text, IsMoment}

-- the parts before and after the first `/`; each is the whole text if there is no `/`
abbrev pub start_part : List ℕ → List ℕ
start_part t = before_first is_slash t

abbrev pub end_part : List ℕ → List ℕ
end_part t = if list_any is_slash t then after_first is_slash t else t

-- the period from start to end, or the reason to refuse it (own: an instant if both moments are equal)
abbrev pub from_to : Option ℤ → Option ℤ → Result Period Reason
from_to None end = Err PeriodForm
from_to (Some start) None = Err PeriodForm
from_to (Some start) (Some end) =
    if int_lt end start then Err PeriodOrder else (if int_eq start end then Ok (Instant start) else Ok (Duration start end))

-- the period that a text denotes, or the reason to refuse the text; the text must be one date-time, or two with `/` between them
abbrev pub period_of : List ℕ → Result Period Reason
period_of t = from_to (moment_of (start_part t)) (moment_of (end_part t))

-- the text of a period; forever has none (own)
abbrev pub period_text : Period → Option (List ℕ)
period_text Forever = None
period_text (Instant m) = Some (moment_text m)
period_text (Duration start end) = Some (moment_text start ++ 47 ∷ moment_text end)

-- the moments of a period are in range
abbrev pub HasMoments : Period → Type 0
HasMoments Forever = ⊤
HasMoments (Instant m) = IsMoment m
HasMoments (Duration start end) = IsMoment start × IsMoment end

abbrev pub EndsAfterStart : Period → Type 0
EndsAfterStart Forever = ⊤
EndsAfterStart (Instant m) = ⊤
EndsAfterStart (Duration start end) = start <ℤ end

-- the conditions that a period satisfies if a text denotes it
pub record IsPeriod (p : Period) : Type 0 where
  pub moments : HasMoments p
  pub forward : EndsAfterStart p

-- if the moments are in range, the text of an instant, or of a duration that ends after its start, denotes that period
abbrev pub PeriodsReadBack : Type 0
PeriodsReadBack = (p : Period) → IsPeriod p → IfSome (period_text p) (λ t. period_of t ≡ Ok p)

-- a period that was read has moments in range, and a duration ends after its start
abbrev pub ReadPeriodsArePeriods : Type 0
ReadPeriodsArePeriods = (t : List ℕ) (p : Period) → period_of t ≡ Ok p → IsPeriod p
