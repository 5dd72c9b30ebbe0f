use Rattle.oim_merge.proofs.Shared.{◌≡◌, ◌+◌, true, false, List, length, sym, ap, subst, refl, Contents, sent_texts, IsReplayOf, Replay, world_of, IsFirstBad, Take, true_from_ne_false}
use Rattle.oim_merge.proofs.Replays.{run_ends, run_further, run_whole, sheets_are}
use Rattle.oim_merge.proofs.replayed.replay.Goals as goal

pub returns-then-not-has_named-clause-err : goal.returns-then-not-has_named-clause-err
returns-then-not-has_named-clause-err c =
    let l = c.loop-event in
    let no : c.has_named.result ≡ false = c.if-not-has_named.true in
    subst (λ events. IsFirstBad c.args.n (length c.args.reports.now) events (l.line + 1)) c.as_slice-event-items.ensures
    (subst (λ line. IsFirstBad c.args.n (length c.args.reports.now) c.as_slice-event-items.result.now (line + 1)) (sym l.invariant.line)
    (run_ends c.args.sheet.now c.args.n c.args.reports.now c.as_slice-event-items.result.now l.event-index l.replicas.bases.items (sent_texts l.replicas.messages) l.replicas.refused l.invariant.run
    (Take 0 0) c.loop-event-test.true
    (true_from_ne_false _ (λ e. let yes : c.has_named.result ≡ true = c.has_named.ensures.1 e in cc))))

pub step-requires-clause-sheets : goal.step-requires-clause-sheets
step-requires-clause-sheets c =
    let l = c.loop-event in
    sheets_are c.args.sheet.now c.args.n c.args.reports.now c.as_slice-event-items.result.now l.event-index l.replicas.bases.items (sent_texts l.replicas.messages) l.replicas.refused l.invariant.run

pub loop-event-preserved : goal.loop-event-preserved
loop-event-preserved c =
    let l = c.loop-event in
    record {
      line = ap (λ n. n + 1) l.invariant.line;
      run = run_further c.args.sheet.now c.args.n c.args.reports.now c.as_slice-event-items.result.now l.event-index l.replicas.bases.items (sent_texts l.replicas.messages) l.replicas.refused l.invariant.run
          (Take 0 0) _ _ _ c.loop-event-test.true (c.has_named.ensures.0 c.if-not-has_named.false) c.in_ok-step.ensures.world c.in_ok-step.ensures.refused;
      kept = c.in_ok-step.ensures.kept;
    }

pub returns-clause-ok : goal.returns-clause-ok
returns-clause-ok c =
    let l = c.loop-event in
    let replay : List Contents → Replay = λ bases. record { world = world_of bases (sent_texts l.replicas.messages); refused = l.replicas.refused } in
    let is = IsReplayOf c.args.sheet.now c.args.n c.args.reports.now in
    subst (λ events. is events (replay c.in_ok-bases_of.field-0.items)) c.as_slice-event-items.ensures
    (subst (λ bases. is c.as_slice-event-items.result.now (replay bases)) (sym c.in_ok-bases_of.ensures)
    (run_whole c.args.sheet.now c.args.n c.args.reports.now c.as_slice-event-items.result.now l.event-index l.replicas.bases.items (sent_texts l.replicas.messages) l.replicas.refused l.invariant.run
    (replay l.replicas.bases.items) c.loop-event-test.false refl refl))
