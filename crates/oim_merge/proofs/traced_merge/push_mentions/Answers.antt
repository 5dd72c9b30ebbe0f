use Rattle.oim_merge.proofs.Shared.{◌+◌, ◌++◌, drop, refl, subst, ◌∙◌, arith, take_all, flat_map, err_from_is_err_and, written_of, Breaks, Passes, Breaks-more, Breaks-trans, Passes-nil, Passes-trans, indexed_text}
use Rattle.oim_merge.proofs.Traces.{lines_left, lines_more}
use Rattle.oim_merge.proofs.traced_merge.push_mentions.Goals as goal

pub loop-mention-init : goal.loop-mention-init
loop-mention-init g c = record { passed = Passes-nil _ _; failures = refl }

pub returns-in-Err-clause-err : goal.returns-in-Err-clause-err
returns-in-Err-clause-err g c =
    let l = c.loop-mention in
    let line = indexed_text (g.F.SourceFormat.source_text c.args.format.now) c.args.count in
    let all = c.args.mentions.now in
    let mention = c.mention-item.result in
    let rest = flat_map line (drop (l.mention-index + 1) all) in
    subst (λ text. Breaks (g.S.Sink.told c.args.out.now) (g.S.Sink.told c.stop.new.sink) c.args.buffer.now text (written_of c.stop.result))
    (lines_left line all l.mention-index mention (line mention) (omega arith) c.mention-item.is refl)
    (Breaks-trans l.invariant.passed (Breaks-more (line mention ++ rest) c.stop.ensures.broken))

pub returns-in_err-push-clause-err : goal.returns-in_err-push-clause-err
returns-in_err-push-clause-err g c =
    let l = c.loop-mention in
    let line = indexed_text (g.F.SourceFormat.source_text c.args.format.now) c.args.count in
    let all = c.args.mentions.now in
    let mention = c.mention-item.result in
    let rest = flat_map line (drop (l.mention-index + 1) all) in
    let p = err_from_is_err_and c.from_residual.result c.from_residual.ensures.1 in rw (p.1, p.2)
    (subst (λ text. Breaks (g.S.Sink.told c.args.out.now) (g.S.Sink.told c.push.new.sink) c.args.buffer.now text (written_of c.in_err-push.field-0.0))
    (lines_left line all l.mention-index mention c.as_slice.result.now (omega arith) c.mention-item.is (c.as_slice.ensures.value ∙ c.in-Ok.ensures))
    (Breaks-trans l.invariant.passed (Breaks-more rest c.in_err-push.ensures.err)))

pub loop-mention-preserved : goal.loop-mention-preserved
loop-mention-preserved g c =
    let l = c.loop-mention in
    let line = indexed_text (g.F.SourceFormat.source_text c.args.format.now) c.args.count in
    let all = c.args.mentions.now in
    let mention = c.mention-item.result in
    record {
      passed = subst (Passes (g.S.Sink.told c.args.out.now) (g.S.Sink.told c.push.new.sink) c.args.buffer.now c.push.new.self)
          (lines_more line all l.mention-index mention c.as_slice.result.now (omega arith) c.mention-item.is (c.as_slice.ensures.value ∙ c.in-Ok.ensures))
          (Passes-trans l.invariant.passed c.in_ok-push.ensures.ok);
      failures = c.in_ok-push.ensures.failures ∙ l.invariant.failures;
    }

pub returns-clause-ok : goal.returns-clause-ok
returns-clause-ok g c =
    let l = c.loop-mention in
    subst (λ ms. Passes (g.S.Sink.told c.args.out.now) (g.S.Sink.told l.out) c.args.buffer.now l.buffer (flat_map (indexed_text (g.F.SourceFormat.source_text c.args.format.now) c.args.count) ms))
    (take_all l.mention-index c.args.mentions.now (omega arith)) l.invariant.passed
