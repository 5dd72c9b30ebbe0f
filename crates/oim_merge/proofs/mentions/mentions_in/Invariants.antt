use Rattle.oim_merge.proofs.Shared.{◌≡◌, ◌++◌, drop, mentions_in}
use Rattle.oim_merge.proofs.mentions.mentions_in.Given as goal

-- appending the mentions in the remaining objects gives the mentions in all objects
abbrev pub invariant-loop-i : goal.invariant-loop-i
invariant-loop-i l = l.mentions.items ++ mentions_in l.number (drop l.i l.identifiers) (drop l.i l.facts) ≡ mentions_in l.number l.identifiers l.facts
