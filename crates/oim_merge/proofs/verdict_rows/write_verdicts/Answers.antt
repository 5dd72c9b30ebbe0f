use Rattle.oim_merge.proofs.Shared.{◌++◌, append-nil, refl, subst, ◌∙◌, ap, Appends, err_from_is_err_and, Breaks-more, Breaks-trans, Passes-trans, Appends-passed, AppendsFront-broken}
use Rattle.oim_merge.proofs.RowLists.{all_exist, list_stops}
use Rattle.oim_merge.proofs.verdict_rows.write_verdicts.Goals as goal

pub returns-in_err-push-clause-err : goal.returns-in_err-push-clause-err
returns-in_err-push-clause-err g c =
    let base = c.args.base.now in
    let all = all_exist (g.F.VerdictFormat.row_text c.args.format.now) base.sheet base.body c.sheet-sheet.ensures.fits in
    let p = err_from_is_err_and c.from_residual-in_err-push.result c.from_residual-in_err-push.ensures.1 in rw (p.1, p.2)
    (list_stops _ _ _ all.0 c.in_err-push.field-0.0 all.1 (ap (λ head. head ++ all.0) (c.as_slice.ensures.value ∙ c.in_ok-header.ensures))
    (AppendsFront-broken c.in_ok-buffer.ensures (Breaks-more all.0 c.in_err-push.ensures.err)))

pub returns-in_err-push_rows-clause-err : goal.returns-in_err-push_rows-clause-err
returns-in_err-push_rows-clause-err g c =
    let broken = c.in_err-push_rows.ensures.err in
    let p = err_from_is_err_and c.from_residual-in_err-push_rows.result c.from_residual-in_err-push_rows.ensures.1 in rw (p.1, p.2)
    (list_stops _ _ _ broken.text c.in_err-push_rows.field-0.0 broken.are (ap (λ head. head ++ broken.text) (c.as_slice.ensures.value ∙ c.in_ok-header.ensures))
    (AppendsFront-broken c.in_ok-buffer.ensures (Breaks-trans c.in_ok-push.ensures.ok broken.broken)))

pub returns-in_err-flush-clause-err : goal.returns-in_err-flush-clause-err
returns-in_err-flush-clause-err g c =
    let passed = c.in_ok-push_rows.ensures.ok in
    let p = err_from_is_err_and c.from_residual-in_err-flush.result c.from_residual-in_err-flush.ensures.1 in rw (p.1, p.2)
    (list_stops _ _ _ passed.text c.in_err-flush.field-0.0 passed.are (append-nil _ ∙ ap (λ head. head ++ passed.text) (c.as_slice.ensures.value ∙ c.in_ok-header.ensures))
    (AppendsFront-broken c.in_ok-buffer.ensures (Breaks-trans (Passes-trans c.in_ok-push.ensures.ok passed.passed) c.in_err-flush.ensures.err)))

pub returns-clause-ok : goal.returns-clause-ok
returns-clause-ok g c =
    let told = g.S.Sink.told in
    let passed = c.in_ok-push_rows.ensures.ok in
    record {
      refusals_are = refl;
      listed = record {
        rows = passed.text;
        are = passed.are;
        appended = subst (Appends (told c.args.out.now) (told c.flush.new.sink)) (append-nil _ ∙ ap (λ head. head ++ passed.text) (c.as_slice.ensures.value ∙ c.in_ok-header.ensures))
            (Appends-passed c.in_ok-buffer.ensures (Passes-trans (Passes-trans c.in_ok-push.ensures.ok passed.passed) c.in_ok-flush.ensures.ok) c.in_ok-flush.ensures.empty);
      };
    }
