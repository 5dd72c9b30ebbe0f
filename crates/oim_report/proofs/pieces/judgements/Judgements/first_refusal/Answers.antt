use Rattle.oim_report.proofs.Shared.{rules, arith, ◌≡◌, ◌+◌, ◌≤◌, ◌∷◌, ℕ, List, Err, length, refl, subst, sym, ap, ◌∙◌, AreJudged}
use Rattle.oim_report.specs.declared.pieces.judgement.Judgement.TheVariants.{Accepted, Refused}
use Rattle.oim_report.proofs.FaultLaws.{fact_other}
use Rattle.oim_report.proofs.Judged.{accepted_first, refused_first}
use Rattle.oim_report.proofs.pieces.judgements.Judgements.first_refusal.Goals as goal

one_less : {A : Type 0} (xs ys : List A) (x : A) (n m k : ℕ) → xs ≡ x ∷ ys → k ≡ n + 1 → n + length xs ≤ m → k + length ys ≤ m
one_less xs ys x n m k e more h = omega (arith, ap length e)

pub loop-identifier-init : goal.loop-identifier-init
loop-identifier-init c =
    let all = c.into_iter-identifier-iterator.result in
    record {
      later = λ sheet bs ms h. (ms, subst (AreJudged sheet bs ms) (search rules) h, λ r e. e);
      count = omega arith;
    }

pub loop-identifier-preserved : goal.loop-identifier-preserved
loop-identifier-preserved c =
    let l = c.loop-identifier in
    let key = c.in-Some._identifier.now in
    let steps : l._identifier-iterator ≡ (key, Accepted) ∷ c.next.new.self = search rules in
    record {
      later = λ sheet bs ms h.
          let now = l.invariant.later sheet bs ms h in
          let next = accepted_first sheet bs l.number now.0 key c.next.new.self (subst (AreJudged sheet bs now.0) steps now.1) in
          (next.later, next.are, λ r e. now.2 r (next.refuse r e));
      count = one_less _ _ _ _ _ _ steps refl l.invariant.count;
    }

pub returns-in-Refused : goal.returns-in-Refused
returns-in-Refused c = λ sheet bs ms h.
    let l = c.loop-identifier in
    let key = c.in-Some._identifier.now in
    let reason = c.in-Refused.reason in
    let steps : l._identifier-iterator ≡ (key, Refused reason) ∷ c.next.new.self = search rules in
    let now = l.invariant.later sheet bs ms h in
    let refused = refused_first sheet bs l.number now.0 key reason c.next.new.self (subst (AreJudged sheet bs now.0) steps now.1) in
    now.2 _ refused.first ∙ ap Err (sym (c.of_fact.ensures.fact (λ memory. fact_other sheet bs refused.object (refused.refused ∙ ap Err memory))))
