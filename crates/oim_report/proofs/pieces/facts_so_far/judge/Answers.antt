use Rattle.oim_report.proofs.Shared.{◌≡◌, ℕ, Result, Ok, Err, IfErr, IfOk, subst, sym, Reason, Fact, map_ok, IsJudged, Judgement}
use Rattle.oim_report.specs.declared.pieces.judgement.Judgement.TheVariants.{Accepted, Refused}
use Rattle.oim_report.proofs.pieces.facts_so_far.judge.Goals as goal

judged_as : (outcome : Result Fact Reason) (said : Result (Fact × ℕ) Reason) (j : Judgement) → outcome ≡ map_ok (λ (f : Fact × ℕ). f.0) said → IfOk said (λ _. j ≡ Accepted) → IfErr said (λ reason. j ≡ Refused reason) → IsJudged outcome j
judged_as outcome (Ok f) j e accepted refused = subst (IsJudged outcome) (sym accepted) (f.0, e)
judged_as outcome (Err reason) j e accepted refused = subst (IsJudged outcome) (sym refused) e

pub returns-then-is_after_refused-clause-judged : goal.returns-then-is_after_refused-clause-judged
returns-then-is_after_refused-clause-judged c = λ v begins.
    let read = c.in_ok-skip_value.ensures v begins in
    record { found = read.found; reads = read.reads; flat = read.flat; is = tt }

pub returns-clause-judged : goal.returns-clause-judged
returns-clause-judged c = λ v begins.
    let read = c.in_ok-said.ensures.said v begins in
    record { found = read.found; reads = read.reads; flat = read.flat; is = judged_as _ c.in_ok-said.said c.judgement_of.result read.is c.judgement_of.ensures.accepted c.judgement_of.ensures.refused }
