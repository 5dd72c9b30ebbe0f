use Rattle.std.proofs.Common.{◌≡◌, ◌++◌}
use Rattle.serde_json.specs.View.{view, members_view}
use Rattle.oim_report.specs.Identifiers.{identifiers_in, tree_identifiers}
use Rattle.oim_report.specs.Json.{entries}
use Rattle.oim_explain.specs.code.Added.{texts_of}
use Rattle.oim_explain.proofs.explained.identifiers_of.Given as goal

abbrev pub invariant-loop-identifier : goal.invariant-loop-identifier
invariant-loop-identifier l = texts_of l.identifiers.items ++ identifiers_in (entries (members_view l.identifier-iterator)) ≡ tree_identifiers (view l.fn.tree)
