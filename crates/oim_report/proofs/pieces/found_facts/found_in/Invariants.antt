use Rattle.std.proofs.Common.{◌≡◌, ◌++◌, map, string_bytes}
use Rattle.oim_report.proofs.pieces.found_facts.found_in.Given as goal

-- the lists and the remaining entries are all entries, in order
abbrev pub invariant-loop-identifier : goal.invariant-loop-identifier
invariant-loop-identifier l =
    (l.all.identifiers ++ map (λ e. string_bytes e.0) l.identifier-iterator ≡ map (λ e. string_bytes e.0) l.initial.identifier-iterator)
    × (l.all.facts.items ++ map (λ e. e.1.0) l.identifier-iterator ≡ map (λ e. e.1.0) l.initial.identifier-iterator)
    × (l.all.ranks.items ++ map (λ e. e.1.1) l.identifier-iterator ≡ map (λ e. e.1.1) l.initial.identifier-iterator)
