use Rattle.std.proofs.Common.{length, sym, ap, ◌∙◌}
use Rattle.oim_merge.proofs.SourceLaws.{as_many}
use Rattle.oim_merge.proofs.consolidation.Consolidation.read_with_mentions.Goals as goal

pub mentions_in-requires : goal.mentions_in-requires
mentions_in-requires c =
    ap length c.as_slice-identifiers.ensures.value
    ∙ as_many c.self.inside.reader c.args.bytes.now c.in-Ok.report.document c.in-Ok.identifiers.items c.in-Ok.ensures.ok c.in-Ok.ensures.identifiers
    ∙ ap length (sym c.facts.ensures)
