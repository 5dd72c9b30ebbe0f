use Rattle.row_formats.proofs.Shared.{◌+◌, ◌≤◌, drop, members_bytes}
use Rattle.row_formats.proofs.row_length.members_bytes.Given as goal

abbrev pub invariant-loop-axis : goal.invariant-loop-axis
invariant-loop-axis l = l.bytes + members_bytes (drop l.axis-index l.members) ≤ members_bytes l.members
