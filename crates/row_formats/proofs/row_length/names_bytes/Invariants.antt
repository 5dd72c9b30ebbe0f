use Rattle.row_formats.proofs.Shared.{◌+◌, ◌≤◌, drop, names_bytes}
use Rattle.row_formats.proofs.row_length.names_bytes.Given as goal

abbrev pub invariant-loop-name : goal.invariant-loop-name
invariant-loop-name l = l.bytes + names_bytes (drop l.name-index l.names) ≤ names_bytes l.names
