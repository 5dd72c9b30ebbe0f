use Rattle.std.proofs.Common.{map, take}
use Rattle.serde_json.specs.View.{view}
use Rattle.oim_report.specs.Faults.{tree_faults}
use Rattle.oim_report.specs.Identifiers.{tree_identifiers}
use Rattle.oim_explain.specs.Explained.{printed_fault}
use Rattle.oim_explain.specs.code.Added.{AddsLines}
use Rattle.oim_explain.proofs.explained.push_faults.Given as goal

-- the lines of the faults so far were appended
abbrev pub invariant-loop-index : goal.invariant-loop-index
invariant-loop-index l =
    let tree = view l.fn.tree in
    AddsLines l.fn.lines l.lines (map (printed_fault (tree_identifiers tree)) (take l.index (tree_faults l.names.sheet.now tree)))
