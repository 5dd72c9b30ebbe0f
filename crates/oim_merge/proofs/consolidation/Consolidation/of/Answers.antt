use Rattle.oim_merge.proofs.Shared.{◌+◌, ap, ◌∙◌, Added}
use Rattle.oim_merge.proofs.Reports.{list_step}
use Rattle.oim_merge.proofs.consolidation.Consolidation.of.Goals as goal

pub loop-report-preserved : goal.loop-report-preserved
loop-report-preserved c =
    let l = c.loop-report in
    record {
      is = list_step c.args.sheet.now c.args.reports.now l.report-index c.report-item.result c.as_bytes.result.now l.consolidation c.add.new.self c.loop-report-test.true c.report-item.is c.as_bytes.ensures c.in_ok-add.ensures.ok l.invariant.is;
      count = ap (λ (a : Added). a.reports) c.in_ok-add.ensures.ok ∙ ap (λ n. n + 1) l.invariant.count;
    }
