use Rattle.std.proofs.Common.{◌∙◌}
use Rattle.oim_names.proofs.Lookups.{if_bound_filled}
use Rattle.oim_names.proofs.aliases.Aliases.uri_text.Goals as goal

pub returns-in-None-clause-filled : goal.returns-in-None-clause-filled
returns-in-None-clause-filled c =
    let prefix = c.args.prefix.now in
    if_bound_filled c.self.inside.bindings.items prefix c.get.result c.self.invariant.bindings.uris (c.get.ensures.value ∙ c.self.invariant.uris prefix)
