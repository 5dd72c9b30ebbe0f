use Rattle.std.proofs.Common.{sym, ◌∙◌, rules}
use Rattle.oim_report.proofs.ReadInTurn.{goes_on_at, declared_stops}
use Rattle.oim_report.proofs.document.features.read_level.Goals as goal

pub loop-key-preserved-in-Some-only_level : goal.loop-key-preserved-in-Some-only_level
loop-key-preserved-in-Some-only_level c =
    goes_on_at c.args.aliases.now c.loop-key.declared _ c.next.new.self _ c.as_str.result.now _ c.in-Some-only_level.level c.only_level.result c.in-Some-2.ensures.steps c.as_str.ensures.value (search rules) c.of_value.ensures c.only_level.ensures.first c.only_level.ensures.again c.in-Some-only_level.is
    ∙ c.loop-key.invariant

pub returns-in-None-only_level-clause-level : goal.returns-in-None-only_level-clause-level
returns-in-None-only_level-clause-level c =
    sym (sym c.loop-key.invariant ∙ declared_stops c.args.aliases.now c.loop-key.declared _ c.next.new.self _ c.as_str.result.now _ c.only_level.result c.in-Some-2.ensures.steps c.as_str.ensures.value (search rules) c.of_value.ensures c.only_level.ensures.first c.in-None-only_level.is)
