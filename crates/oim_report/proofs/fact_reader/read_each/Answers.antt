use Rattle.oim_report.proofs.Shared.{rules, arith, ℕ, ◌≤◌, List, Err, Ok, ◌≡◌, ◌++◌, ◌∷◌, ◌+◌, [], inl, inr, ⊎_elim, refl, sym, ap, ◌∙◌, length, view, members_view, values, fact_outcome}
use Rattle.oim_report.proofs.Facts.{facts_after, facts_step, all_facts}
use Rattle.oim_report.proofs.FaultLaws.{fact_other}
use Rattle.oim_report.proofs.fact_reader.read_each.Goals as goal

one_less : {A : Type 0} (xs ys : List A) (x : A) (n m k p : ℕ) → xs ≡ x ∷ ys → k ≡ n + 1 → p ≡ m → n + length xs ≤ m → k + length ys ≤ p
one_less xs ys x n m k p e more same h = omega (arith, ap length e)

as_long : {A : Type 0} (xs ys : List A) (n m : ℕ) → xs ≡ ys → n + length ys ≤ m → n + length xs ≤ m
as_long xs ys n m e h = omega (arith, ap length e)

pub returns-in-Err-clause-errors : goal.returns-in-Err-clause-errors
returns-in-Err-clause-errors c =
    let own = c.args.reader.now in
    let read = fact_outcome own.sheet own.aliases in
    let object = view c.in-Some.object.now in
    let l = c.loop-identifier in
    ⊎_elim
    (λ memory. inl (c.of_fact.ensures.memory memory))
    (λ before. let refused = ap (λ r. fact_outcome r.sheet r.aliases object) (sym l.invariant.same) ∙ before in inr
    (sym (all_facts read (values (members_view c.args.objects.now.entries)))
    ∙ sym l.invariant.said
    ∙ ap (λ es. facts_after read l.number l.facts.items (values (members_view es))) c.in-Some.ensures.steps
    ∙ ap (λ o. facts_step l.number l.facts.items o (λ m more. facts_after read m more (values (members_view c.next.new.self)))) refused
    ∙ ap Err (sym (c.of_fact.ensures.fact (λ memory. fact_other own.sheet own.aliases object (refused ∙ ap Err memory))))))
    c.in-Err.ensures.errors

pub returns-clause-ok : goal.returns-clause-ok
returns-clause-ok c =
    let own = c.args.reader.now in
    let read = fact_outcome own.sheet own.aliases in
    let l = c.loop-identifier in
    sym (all_facts read (values (members_view c.args.objects.now.entries)))
    ∙ sym l.invariant.said
    ∙ ap (λ es. facts_after read l.number l.facts.items (values (members_view es))) c.in-None.ensures.steps.0

pub loop-identifier-init : goal.loop-identifier-init
loop-identifier-init c =
    let own = c.args.reader.now in
    let read = fact_outcome own.sheet own.aliases in
    let all = c.into_iter-identifier-iterator.result in
    let whole : all ≡ c.args.objects.now.entries = search rules in
    let none : facts_after read 1 c.args.facts.now.items (values (members_view all)) ≡ facts_after read 1 [] (values (members_view all)) = ap (λ fs. facts_after read 1 fs (values (members_view all))) c.requires.empty in
    record {
      said = none ∙ ap (λ es. facts_after read 1 [] (values (members_view es))) whole;
      count = omega arith;
      room = as_long _ _ _ _ whole c.requires.room;
      same = refl;
    }

pub loop-identifier-preserved : goal.loop-identifier-preserved
loop-identifier-preserved c =
    let own = c.args.reader.now in
    let read = fact_outcome own.sheet own.aliases in
    let object = view c.in-Some.object.now in
    let l = c.loop-identifier in
    let rest = values (members_view c.next.new.self) in
    let here : read object ≡ Ok c.in-Ok.fact = ap (λ r. fact_outcome r.sheet r.aliases object) (sym l.invariant.same) ∙ c.in-Ok.ensures.ok in
    let step : facts_after read l.number l.facts.items (values (members_view l._identifier-iterator)) ≡ facts_after read (l.number + 1) (l.facts.items ++ c.in-Ok.fact ∷ []) rest =
    ap (λ es. facts_after read l.number l.facts.items (values (members_view es))) c.in-Some.ensures.steps
    ∙ ap (λ o. facts_step l.number l.facts.items o (λ m more. facts_after read m more rest)) here in
    record {
      said = ap (λ fs. facts_after read (l.number + 1) fs rest) c.push_reserved.ensures.items ∙ sym step ∙ l.invariant.said;
      count = one_less _ _ _ _ _ _ _ c.in-Some.ensures.steps refl refl l.invariant.count;
      room = one_less _ _ _ _ _ _ _ c.in-Some.ensures.steps c.push_reserved.ensures.len c.push_reserved.ensures.capacity l.invariant.room;
      same = c.read.ensures.same ∙ l.invariant.same;
    }
