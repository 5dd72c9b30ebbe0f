use Rattle.row_formats.proofs.Shared.{◌+◌, ◌≤◌, drop, facts_bytes}
use Rattle.row_formats.proofs.row_length.facts_bytes.Given as goal

abbrev pub invariant-loop-value : goal.invariant-loop-value
invariant-loop-value l = l.bytes + facts_bytes l.each (drop l.value-index l.values) ≤ facts_bytes l.each l.values
