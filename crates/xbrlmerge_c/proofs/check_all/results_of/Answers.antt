use Rattle.std.proofs.Common.{◌+◌, [], sym, subst, append-nil, arith}
use Rattle.std.proofs.lemmas.List.{drop_all}
use Rattle.xbrlmerge_c.specs.Checks.{AreResults}
use Rattle.xbrlmerge_c.specs.Ends.{reports_from}
use Rattle.xbrlmerge_c.specs.code.Reports.{texts_of}
use Rattle.xbrlmerge_c.proofs.check_all.results_of.Goals as goal

pub returns-clause-are : goal.returns-clause-are
returns-clause-are c =
    let l = c.loop-index in
    let sheet = c.args.sheet.now in
    let reports = c.args.reports.now in
    let none = sym (drop_all l.index reports.ends.now (omega arith)) in
    subst (AreResults sheet 1 (texts_of reports)) (append-nil l.found.items)
    (l.invariant.all [] (subst (λ left. AreResults sheet (l.index + 1) (reports_from l.from reports.bytes.now left) []) none tt))
