use Rattle.oim_merge.proofs.Shared.{◌++◌, append-nil, rules, subst, sym, ap, ◌∙◌, ◌≡◌, ℕ, List, Appends, Refusal, failures_after_fault, err_from_is_err_and, Contents, Breaks-more, Breaks-trans, Passes-trans, Appends-passed, AppendsFront-broken, AreOf, Traced}
use Rattle.oim_merge.proofs.Traces.{same_failures, stops_at, texts_are, traced_are_of}
use Rattle.oim_merge.proofs.traced_merge.TracedMerge.finish.Goals as goal

pub indexed_by_fact-requires : goal.indexed_by_fact-requires
indexed_by_fact-requires g c =
    let inside = c.self.inside in
    subst (λ (b : Contents). AreOf b.body.facts inside.mentions.items) (sym c.in_ok-base.ensures.base) (traced_are_of inside.consolidation inside.mentions.items c.self.invariant)

pub returns-in_err-base-clause-err : goal.returns-in_err-base-clause-err
returns-in_err-base-clause-err g c =
    let p = err_from_is_err_and c.from_residual.result c.from_residual.ensures.1 in rw (p.1, p.2) (search rules)

pub returns-in_err-mentions-clause-err : goal.returns-in_err-mentions-clause-err
returns-in_err-mentions-clause-err g c =
    let p = err_from_is_err_and c.from_residual-in_err-mentions.result c.from_residual-in_err-mentions.ensures.1 in rw (p.1, p.2) (search rules)

pub returns-in_err-buffer-clause-err : goal.returns-in_err-buffer-clause-err
returns-in_err-buffer-clause-err g c =
    let p = err_from_is_err_and c.from_residual-in_err-buffer.result c.from_residual-in_err-buffer.ensures.1 in rw (p.1, p.2) (search rules)

pub returns-in_err-header-clause-err : goal.returns-in_err-header-clause-err
returns-in_err-header-clause-err g c =
    let p = err_from_is_err_and c.from_residual-in_err-header.result c.from_residual-in_err-header.ensures.1 in rw (p.1, p.2) (search rules)

pub returns-in_err-push-clause-err : goal.returns-in_err-push-clause-err
returns-in_err-push-clause-err g c =
    let written = g.F.SourceFormat.source_text c.args.format.now in
    let t : Traced = record { added = c.self.inside.consolidation; mentions = c.self.inside.mentions.items } in
    let texts = texts_are written t c.args.self c.in_ok-base.field-0.base c.fact_count-count.result c.in_ok-mentions.mentions.items
    c.in_ok-base.ensures.base c.fact_count-count.ensures c.in_ok-mentions.ensures c.self.view_is in
    let p = err_from_is_err_and c.from_residual-in_err-push.result c.from_residual-in_err-push.ensures.1 in rw (p.1, p.2)
    (stops_at (g.F.SourceFormat.header c.args.format.now) written c.args.self c.in_err-push.field-0.0 ((λ i. (c.as_slice.ensures.value ∙ c.in_ok-header.ensures) i ++ texts i)) (AppendsFront-broken c.in_ok-buffer.ensures (Breaks-more _ c.in_err-push.ensures.err)))

pub returns-in_err-push_mentions-clause-err : goal.returns-in_err-push_mentions-clause-err
returns-in_err-push_mentions-clause-err g c =
    let written = g.F.SourceFormat.source_text c.args.format.now in
    let t : Traced = record { added = c.self.inside.consolidation; mentions = c.self.inside.mentions.items } in
    let texts = texts_are written t c.args.self c.in_ok-base.field-0.base c.fact_count-count.result c.as_slice-2.result.now
    c.in_ok-base.ensures.base c.fact_count-count.ensures (c.as_slice-2.ensures.value ∙ c.in_ok-mentions.ensures) c.self.view_is in
    let p = err_from_is_err_and c.from_residual-in_err-push_mentions.result c.from_residual-in_err-push_mentions.ensures.1 in rw (p.1, p.2)
    (stops_at (g.F.SourceFormat.header c.args.format.now) written c.args.self c.in_err-push_mentions.field-0.0 ((λ i. (c.as_slice.ensures.value ∙ c.in_ok-header.ensures) i ++ texts i)) (AppendsFront-broken c.in_ok-buffer.ensures (Breaks-trans c.in_ok-push.ensures.ok c.in_err-push_mentions.ensures.err)))

pub returns-in_err-flush-clause-err : goal.returns-in_err-flush-clause-err
returns-in_err-flush-clause-err g c =
    let written = g.F.SourceFormat.source_text c.args.format.now in
    let t : Traced = record { added = c.self.inside.consolidation; mentions = c.self.inside.mentions.items } in
    let texts = texts_are written t c.args.self c.in_ok-base.field-0.base c.fact_count-count.result c.as_slice-2.result.now
    c.in_ok-base.ensures.base c.fact_count-count.ensures (c.as_slice-2.ensures.value ∙ c.in_ok-mentions.ensures) c.self.view_is in
    let p = err_from_is_err_and c.from_residual-in_err-flush.result c.from_residual-in_err-flush.ensures.1 in rw (p.1, p.2)
    (stops_at (g.F.SourceFormat.header c.args.format.now) written c.args.self c.in_err-flush.field-0.0 (append-nil _ ∙ (λ i. (c.as_slice.ensures.value ∙ c.in_ok-header.ensures) i ++ texts i)) (AppendsFront-broken c.in_ok-buffer.ensures (Breaks-trans (Passes-trans c.in_ok-push.ensures.ok c.in_ok-push_mentions.ensures.ok) c.in_err-flush.ensures.err)))

pub returns-in_err-flush-clause-failures : goal.returns-in_err-flush-clause-failures
returns-in_err-flush-clause-failures g c =
    let before : g.S.Sink.failures c.push_mentions.new.out ≡ g.S.Sink.failures c.args.out.now = c.in_ok-push_mentions.ensures.failures ∙ c.in_ok-push.ensures.failures in
    let p = err_from_is_err_and c.from_residual-in_err-flush.result c.from_residual-in_err-flush.ensures.1 in rw (p.1, p.2)
    (c.in_err-flush.ensures.failures ∙ ap (failures_after_fault c.in_err-flush.field-0.0) before ∙ same_failures (List (ℕ × Refusal)) c.in_err-flush.field-0.0 _)

pub returns-clause-ok : goal.returns-clause-ok
returns-clause-ok g c =
    let told = g.S.Sink.told in
    let written = g.F.SourceFormat.source_text c.args.format.now in
    let t : Traced = record { added = c.self.inside.consolidation; mentions = c.self.inside.mentions.items } in
    let texts = texts_are written t c.args.self c.in_ok-base.field-0.base c.fact_count-count.result c.as_slice-2.result.now
    c.in_ok-base.ensures.base c.fact_count-count.ensures (c.as_slice-2.ensures.value ∙ c.in_ok-mentions.ensures) c.self.view_is in
    record {
      refusals_are = c.in_ok-base.ensures.refusals ∙ ap (λ (u : Traced). u.added.refusals) c.self.view_is;
      appended = subst (Appends (told c.args.out.now) (told c.flush.new.sink)) (append-nil _ ∙ (λ i. (c.as_slice.ensures.value ∙ c.in_ok-header.ensures) i ++ texts i))
          (Appends-passed c.in_ok-buffer.ensures (Passes-trans (Passes-trans c.in_ok-push.ensures.ok c.in_ok-push_mentions.ensures.ok) c.in_ok-flush.ensures.ok) c.in_ok-flush.ensures.empty);
    }
