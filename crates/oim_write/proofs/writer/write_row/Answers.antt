use Rattle.oim_write.proofs.Shared.{◌+◌, ◌++◌, [], refl, sym, ap, subst, ◌∙◌, append-nil, append_assoc, add-zero, arith, drop_all, err_from_is_err_and, facts_with, numbered_text, written_of, Breaks, Passes}
use Rattle.oim_write.proofs.NumberedFacts.{left_facts}
use Rattle.oim_write.proofs.PieceTexts.{behind_nothing}
use Rattle.oim_write.proofs.Passing.{Breaks-more, Breaks-trans, Passes-nil, Passes-trans}
use Rattle.oim_write.proofs.writer.write_row.Goals as goal

pub loop-i-init : goal.loop-i-init
loop-i-init g c =
    let labels = c.args.labels.now in
    let row = c.args.row in
    record {
      passed = ([], Passes-nil _ _, ap (λ n. numbered_text labels.table.now labels.digits n (facts_with row.dimensions.now row.values.now)) (add-zero c.args.before));
      failures = refl;
    }

pub returns-in-Err-clause-err : goal.returns-in-Err-clause-err
returns-in-Err-clause-err g c =
    let so_far = c.loop-i.invariant.passed in
    subst (λ text. Breaks (g.S.Sink.told c.args.out.now) (g.S.Sink.told c.stop.new.sink) c.args.buffer.now text (written_of c.stop.result)) so_far.2
    (Breaks-trans so_far.1 (Breaks-more _ c.stop.ensures.broken))

pub returns-in_err-push-clause-err : goal.returns-in_err-push-clause-err
returns-in_err-push-clause-err g c =
    let l = c.loop-i in
    let labels = c.args.labels.now in
    let row = c.args.row in
    let written = c.deref.ensures.value ∙ behind_nothing c.in-Ok.ensures c.clear.ensures.items in
    let p = err_from_is_err_and c.from_residual.result c.from_residual.ensures.1 in rw (p.1, p.2)
    (subst (λ text. Breaks (g.S.Sink.told c.args.out.now) (g.S.Sink.told c.push.new.sink) c.args.buffer.now text (written_of c.in_err-push.field-0.0))
    (left_facts labels.table.now labels.digits _ row.dimensions.now row.values.now c.args.before l.i c.value-item.result (omega arith) c.value-item.is written l.invariant.passed.2)
    (Breaks-trans l.invariant.passed.1 (Breaks-more _ c.in_err-push.ensures.err)))

pub loop-i-preserved : goal.loop-i-preserved
loop-i-preserved g c =
    let l = c.loop-i in
    let labels = c.args.labels.now in
    let row = c.args.row in
    let written = c.deref.ensures.value ∙ behind_nothing c.in-Ok.ensures c.clear.ensures.items in
    record {
      passed = (
        _,
        Passes-trans l.invariant.passed.1 c.in_ok-push.ensures.ok,
        append_assoc l.invariant.passed.0 _ _ ∙ left_facts labels.table.now labels.digits _ row.dimensions.now row.values.now c.args.before l.i c.value-item.result (omega arith) c.value-item.is written l.invariant.passed.2,
      );
      failures = c.in_ok-push.ensures.failures ∙ l.invariant.failures;
    }

pub returns-clause-ok : goal.returns-clause-ok
returns-clause-ok g c =
    let l = c.loop-i in
    let so_far = l.invariant.passed in
    let labels = c.args.labels.now in
    subst (Passes (g.S.Sink.told c.args.out.now) (g.S.Sink.told l.out) c.args.buffer.now l.buffer)
    (sym (append-nil so_far.0) ∙ ap (λ vs. so_far.0 ++ numbered_text labels.table.now labels.digits (c.args.before + l.i) (facts_with c.args.row.dimensions.now vs)) (sym (drop_all l.i c.args.row.values.now (omega arith))) ∙ so_far.2)
    so_far.1
