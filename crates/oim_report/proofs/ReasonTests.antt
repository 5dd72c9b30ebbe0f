-- A period or a number is refused for a reason exactly if the condition of `Holds` for this reason applies.
use Rattle.oim_report.proofs.Shared.{◌≡◌, ℕ, ℤ, List, Bool, true, false, not, ◌||◌, ◌&&◌, Ok, Err, refl, Option, Some, None, is_none, int_lt, if◌then◌else◌, option_and_then, option_eq, int_eq, result_err, Reason, PeriodForm, PeriodOrder, NumberForm, NumberDigits, is_number, is_short, number_refusal, moment_of, end_part, from_to, period_of, start_part, Period, Instant, Duration, is_some_and, lacks_moment, runs_backward}
use Rattle.oim_names.specs.contracts.reason.ReasonPartialEq.TheImpl.{eq-value as same_reason}

abbrev pub answers : Option Reason → Reason → Bool
answers o r = option_eq same_reason.it o (Some r)

ordered : (before same : Bool) (p q : Period) → answers (result_err (if before then Err PeriodOrder else (if same then Ok p else Ok q))) PeriodOrder ≡ before
ordered false true p q = refl
ordered b same p q = refl

formed : (before same : Bool) (p q : Period) → answers (result_err (if before then Err PeriodOrder else (if same then Ok p else Ok q))) PeriodForm ≡ false
formed false true p q = refl
formed b same p q = refl

form_between : (start end : Option ℤ) → answers (result_err (from_to start end)) PeriodForm ≡ (is_none start || is_none end)
form_between (Some s) (Some e) = formed (int_lt e s) (int_eq s e) (Instant s) (Duration s e)
form_between start end = refl

order_between : (start end : Option ℤ) → answers (result_err (from_to start end)) PeriodOrder ≡ is_some_and (λ s. is_some_and (λ e. int_lt e s) end) start
order_between (Some s) (Some e) = ordered (int_lt e s) (int_eq s e) (Instant s) (Duration s e)
order_between start end = refl

pub period_form : (o : Option (List ℕ)) → answers (option_and_then (λ t. result_err (period_of t)) o) PeriodForm ≡ is_some_and lacks_moment o
period_form None = refl
period_form (Some t) = form_between (moment_of (start_part t)) (moment_of (end_part t))

pub period_order : (o : Option (List ℕ)) → answers (option_and_then (λ t. result_err (period_of t)) o) PeriodOrder ≡ is_some_and runs_backward o
period_order None = refl
period_order (Some t) = order_between (moment_of (start_part t)) (moment_of (end_part t))

number_so : (number short : Bool) → (answers (if not number then Some NumberForm else (if not short then Some NumberDigits else None)) NumberForm ≡ not number) × (answers (if not number then Some NumberForm else (if not short then Some NumberDigits else None)) NumberDigits ≡ (number && not short))
number_so true false = (refl, refl)
number_so b short = (refl, refl)

pub number_form : (numeric : Bool) (o : Option (List ℕ)) → answers (if numeric then option_and_then number_refusal o else None) NumberForm ≡ (numeric && is_some_and (λ t. not (is_number t)) o)
number_form true (Some t) = (number_so (is_number t) (is_short t)).0
number_form true None = refl
number_form false o = refl

pub number_digits : (numeric : Bool) (o : Option (List ℕ)) → answers (if numeric then option_and_then number_refusal o else None) NumberDigits ≡ (numeric && is_some_and (λ t. is_number t && not (is_short t)) o)
number_digits true (Some t) = (number_so (is_number t) (is_short t)).1
number_digits true None = refl
number_digits false o = refl
