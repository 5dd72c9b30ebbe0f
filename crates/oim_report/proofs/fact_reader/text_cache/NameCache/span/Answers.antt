use Rattle.oim_report.proofs.Shared.{sym, ap, subst, ◌∙◌, option_copied, same_Some, IsSpan, IsReached}
use Rattle.std.specs.FinMap as map
use Rattle.oim_report.proofs.Grouped.{each_after}
use Rattle.oim_report.proofs.fact_reader.text_cache.NameCache.span.Goals as goal

pub returns-in-Some-clause-span : goal.returns-in-Some-clause-span
returns-in-Some-clause-span g c = c.requires.known.spans c.args.prefix.now c.in-Some.known.now (sym c.get.ensures.value ∙ ap option_copied c.in-Some.is) c.args.uri.now c.requires.bound

pub returns-in_err-insert-clause-known : goal.returns-in_err-insert-clause-known
returns-in_err-insert-clause-known g c =
    let m = c.args.names.now in
    let bs = c.args.aliases.now in
    let p = c.args.prefix.now in
    let span = c.span-span.result in
    let reached : IsReached m bs p span = λ u e. subst (λ v. IsSpan (map.entries m) v span) (same_Some _ _ (sym c.requires.bound ∙ e)) c.span-span.ensures in
    record {
      texts = c.requires.known.texts;
      spans = each_after (IsReached m bs) c.args.self.now.spans c.insert.new.self p c.in_ok-key.key span c.insert.result c.insert.ensures.updates c.insert.ensures.err c.in_ok-key.ensures.ok c.requires.known.spans reached;
    }

pub returns-clause-known : goal.returns-clause-known
returns-clause-known g c =
    let m = c.args.names.now in
    let bs = c.args.aliases.now in
    let p = c.args.prefix.now in
    let span = c.span-span.result in
    let reached : IsReached m bs p span = λ u e. subst (λ v. IsSpan (map.entries m) v span) (same_Some _ _ (sym c.requires.bound ∙ e)) c.span-span.ensures in
    record {
      texts = c.requires.known.texts;
      spans = each_after (IsReached m bs) c.args.self.now.spans c.insert.new.self p c.in_ok-key.key span c.insert.result c.insert.ensures.updates c.insert.ensures.err c.in_ok-key.ensures.ok c.requires.known.spans reached;
    }
