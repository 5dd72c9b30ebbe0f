use Rattle.std.proofs.Common.{◌≡◌, [], Some, sym, subst, ◌∙◌}
use Rattle.std.proofs.lemmas.Result.{err_from_is_err_and}
use Rattle.xbrlmerge_c.specs.Calls.{Merges}
use Rattle.xbrlmerge_c.specs.code.Reports.{texts_of}
use Rattle.xbrlmerge_c.proofs.Said as said
use Rattle.xbrlmerge_c.proofs.calls.merged.Goals as goal

pub returns-in_err-refusals-clause-err : goal.returns-in_err-refusals-clause-err
returns-in_err-refusals-clause-err c =
    let p = err_from_is_err_and c.from_residual-in_err-refusals.result c.from_residual-in_err-refusals.ensures.1 in
    rw (p.1, p.2)
    (said.stops c.args.sheet.now (texts_of c.args.reports.now) c.in_ok-sheet.sheet c.in_ok-consolidation.consolidation c.in_ok-sheet.ensures.ok c.in_ok-consolidation.ensures c.args.level (Some c.new-sink.result.writer.items) (Some c.finish.new.out.writer.items) _ c.in_err-refusals.ensures.err)

pub returns-clause-ok : goal.returns-clause-ok
returns-clause-ok c =
    let sheet = c.args.sheet.now in
    let reports = texts_of c.args.reports.now in
    let none : c.new-sink.result.writer.items ≡ [] = (λ i. (c.new-sink.ensures.writer i).items) ∙ c.new.ensures.items in
    let text : c.into_inner.result.items ≡ c.finish.new.out.writer.items = λ i. (c.into_inner.ensures i).items in
    subst (λ t. Merges sheet reports c.args.level t c.in_ok-refusals.refusals) (sym text)
    (said.merges sheet reports c.in_ok-sheet.sheet c.in_ok-consolidation.consolidation c.in_ok-sheet.ensures.ok c.in_ok-consolidation.ensures c.args.level c.new-sink.result.writer.items c.finish.new.out.writer.items c.in_ok-refusals.refusals none c.in_ok-refusals.ensures.ok)
