use Rattle.std.proofs.Common.{◌≡◌, drop, length, sym, ap, ◌∙◌, arith}
use Rattle.std.proofs.Math.Seq.{drop-length}
use Rattle.oim_merge.specs.Traced.{with_all_traced}
use Rattle.oim_merge.proofs.Traces.{traced_steps_are_list}
use Rattle.xbrlmerge_c.specs.Ends.{reports_from}
use Rattle.xbrlmerge_c.specs.code.Reports.{texts_of}
use Rattle.xbrlmerge_c.proofs.reports.trace_reports.Goals as goal

pub returns : goal.returns
returns c =
    let l = c.loop-end in
    let reports = c.args.reports.now in
    let ends = reports.ends.now in
    let all : l.end-index ≡ length ends = omega arith in
    sym (ap (λ left. with_all_traced l.merge (reports_from l.from reports.bytes.now left)) (ap (λ n. drop n ends) all ∙ drop-length ends))
    ∙ l.invariant.all
    ∙ traced_steps_are_list c.args.sheet.now (texts_of reports)
