use Rattle.oim_report.proofs.Shared.{◌≡◌, Members, AreSoFar, IsUpTo, Utf8, shadow}
use Rattle.oim_report.proofs.pieces.facts_in_pieces.read_facts_in_pieces.Given as goal

-- the rest of the text is UTF-8, the facts before the rest were read, and the reader is unchanged
abbrev pub invariant-loop : goal.invariant-loop
invariant-loop l = shadow (Utf8 l.left) × (objects : Members) × IsUpTo l.text l.left objects × AreSoFar l.initial.reader.sheet l.initial.reader.aliases objects l.facts × (l.reader ≡ l.initial.reader)
