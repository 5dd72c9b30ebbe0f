use Rattle.fact_base.proofs.Shared.{drop, arith, length-drop, length-map, row_of}
use Rattle.fact_base.proofs.Stored.{rises_as_derived}
use Rattle.fact_base.proofs.Walks.{run_further}
use Rattle.fact_base.proofs.rows.Rows.uri_run.Goals as goal

pub loop-count-preserved : goal.loop-count-preserved
loop-count-preserved c =
    let es = c.args.self.now.entries.now in
    record {
      within = omega (arith, c.loop-count-test.true);
      known = run_further es c.args.self.now.next c.saturating_sub-left.result c.loop-count.count c.args.uri.now (rises_as_derived es c.len.ensures.map.rises)
          (omega (arith, c.saturating_sub-left.ensures, c.len.ensures.count)) (omega (arith, c.loop-count-test.true)) c.loop-count.invariant.known c.if-has_uri.ensures;
    }

pub returns-else-has_uri-clause-within : goal.returns-else-has_uri-clause-within
returns-else-has_uri-clause-within c =
    let own = c.args.self.now in
    let es = own.entries.now in
    omega (arith, c.loop-count.invariant.within, c.saturating_sub-left.ensures, c.len.ensures.count, length-map (drop own.next es) row_of, length-drop own.next es)

pub returns-after-loop-count-clause-within : goal.returns-after-loop-count-clause-within
returns-after-loop-count-clause-within c =
    let own = c.args.self.now in
    let es = own.entries.now in
    omega (arith, c.loop-count.invariant.within, c.saturating_sub-left.ensures, c.len.ensures.count, length-map (drop own.next es) row_of, length-drop own.next es)
