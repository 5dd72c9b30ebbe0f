use Rattle.oim_report.proofs.Shared.{◌≡◌, None, drop, option_map, rise_after}
use Rattle.oim_report.proofs.pieces.found_facts.rise.Given as goal

-- all identifiers ascend exactly if `last` and the remaining identifiers ascend
abbrev pub invariant-loop-index : goal.invariant-loop-index
invariant-loop-index l = rise_after None l.identifiers ≡ rise_after (option_map (λ t. t.now) l.last) (drop l.index l.identifiers)
