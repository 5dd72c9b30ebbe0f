use Rattle.oim_report.proofs.Shared.{sym, ◌∙◌, view}
use Rattle.oim_report.proofs.FaultLaws.{refused_least, some_least}
use Rattle.oim_report.proofs.fact_reader.FactReader.refusal_of.Goals as goal

pub returns : goal.returns
returns c =
    let s = c.args.self.now in
    refused_least s.sheet s.aliases (view c.args.object.now) c.in-Some.reason (sym c.in_ok-reason.ensures ∙ c.in-Some.is)

pub unreachable-requires : goal.unreachable-requires
unreachable-requires c =
    let s = c.args.self.now in
    some_least s.sheet s.aliases (view c.args.object.now) c.requires (sym c.in_ok-reason.ensures ∙ c.in-None.is)
