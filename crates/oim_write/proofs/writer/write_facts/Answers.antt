use Rattle.oim_write.proofs.Shared.{◌++◌, [], length, refl, string_bytes, sym, ap, subst, ◌∙◌, append-nil, append_assoc, arith, err_from_is_err_and, rows_left, numbered_text, SharePrefix, width, written_of, Breaks, Passes}
use Rattle.oim_write.proofs.NumberedFacts.{length-next_row, next_row, rows_facts, rows_facts_are}
use Rattle.oim_write.proofs.Passing.{Breaks-more, Breaks-trans, Passes-nil, Passes-trans}
use Rattle.oim_write.proofs.writer.write_facts.Goals as goal

pub loop-row-init : goal.loop-row-init
loop-row-init g c =
    let facts = c.args.base.now.body.facts in
    let all = ap rows_facts c.rows-rows.ensures ∙ rows_facts_are facts in
    record {
      passed = (
        [],
        Passes-nil _ _,
        ap (numbered_text c.args.table.now c.width_of-digits.result 0) all ∙ ap (λ n. numbered_text c.args.table.now n 0 facts) (c.width_of-digits.ensures ∙ ap width c.fact_count.ensures),
      );
      count = omega (arith, ap length all);
      failures = refl;
      known = subst (λ n. SharePrefix c.args.table.now (string_bytes c.new-concepts.result.prefix) n (rows_left c.rows-rows.result)) (sym c.new-concepts.ensures) (λ k d within. absurd (omega (arith, within)));
    }

pub spell-requires : goal.spell-requires
spell-requires g c =
    let l = c.loop-row in
    subst (SharePrefix c.args.table.now (string_bytes l.concepts.prefix) l.concepts.known) c.in-Some.ensures.steps l.invariant.known

pub write_row-requires-clause-concept : goal.write_row-requires-clause-concept
write_row-requires-clause-concept g c = c.as_str-concept.ensures.value ∙ c.in-Ok.ensures.text

pub write_row-requires-clause-room : goal.write_row-requires-clause-room
write_row-requires-clause-room g c = omega (arith, length-next_row _ _ _ c.in-Some.ensures.steps, c.loop-row.invariant.count, c.fact_count.ensures, c.fact_count.type_inv)

pub returns-in-Err-clause-err : goal.returns-in-Err-clause-err
returns-in-Err-clause-err g c =
    let so_far = c.loop-row.invariant.passed in
    subst (λ text. Breaks (g.S.Sink.told c.args.out.now) (g.S.Sink.told c.stop.new.sink) c.args.buffer.now text (written_of c.stop.result)) so_far.2
    (Breaks-trans so_far.1 (Breaks-more _ c.stop.ensures.broken))

pub returns-in_err-write_row-clause-err : goal.returns-in_err-write_row-clause-err
returns-in_err-write_row-clause-err g c =
    let l = c.loop-row in
    let so_far = l.invariant.passed in
    let p = err_from_is_err_and c.from_residual.result c.from_residual.ensures.1 in rw (p.1, p.2)
    (subst (λ text. Breaks (g.S.Sink.told c.args.out.now) (g.S.Sink.told c.write_row.new.out) c.args.buffer.now text (written_of c.in_err-write_row.field-0.0))
    (ap (λ t. so_far.0 ++ t) (sym (next_row _ _ _ c.in-Some.ensures.steps c.args.table.now c.width_of-digits.result l.before)) ∙ so_far.2)
    (Breaks-trans so_far.1 (Breaks-more _ c.in_err-write_row.ensures.err)))

pub overflow_add-before : goal.overflow_add-before
overflow_add-before g c = omega (arith, length-next_row _ _ _ c.in-Some.ensures.steps, c.loop-row.invariant.count, c.fact_count.ensures, c.fact_count.type_inv)

pub loop-row-smaller : goal.loop-row-smaller
loop-row-smaller g c = omega (arith, ap length c.in-Some.ensures.steps)

pub loop-row-preserved : goal.loop-row-preserved
loop-row-preserved g c =
    let l = c.loop-row in
    let so_far = l.invariant.passed in
    record {
      passed = (_, Passes-trans so_far.1 c.in_ok-write_row.ensures.ok, append_assoc so_far.0 _ _ ∙ ap (λ t. so_far.0 ++ t) (sym (next_row _ _ _ c.in-Some.ensures.steps c.args.table.now c.width_of-digits.result l.before)) ∙ so_far.2);
      count = omega (arith, length-next_row _ _ _ c.in-Some.ensures.steps, l.invariant.count);
      failures = c.in_ok-write_row.ensures.failures ∙ l.invariant.failures;
      known = c.in-Ok.ensures.known;
    }

pub returns-clause-ok : goal.returns-clause-ok
returns-clause-ok g c =
    let l = c.loop-row in
    let so_far = l.invariant.passed in
    subst (Passes (g.S.Sink.told c.args.out.now) (g.S.Sink.told l.out) c.args.buffer.now l.buffer)
    (sym (append-nil so_far.0) ∙ ap (λ rs. so_far.0 ++ numbered_text c.args.table.now c.width_of-digits.result l.before (rows_facts rs)) (sym c.in_default.ensures.steps.0) ∙ so_far.2)
    so_far.1
