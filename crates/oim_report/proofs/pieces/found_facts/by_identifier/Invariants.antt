use Rattle.oim_report.proofs.Shared.{◌≡◌, ◌++◌, ℕ, List, [], length, map, take, String, Global, string_bytes, Fact}
use Rattle.oim_report.proofs.FoundInOrder.{put_entries}
use Rattle.oim_report.proofs.pieces.found_facts.by_identifier.Given as goal

-- the facts that were taken are stored under their identifiers, each with its rank
abbrev pub invariant-loop-index : goal.invariant-loop-index
invariant-loop-index l =
    (keys : List (String Global)) × (taken : List (Fact × ℕ)) × (take l.index l.fn.read.identifiers ≡ map string_bytes keys) × (l.fn.read.facts.items ≡ map (λ v. v.0) taken ++ l.facts.rest.items) × (l.fn.read.ranks.items ≡ map (λ v. v.1) taken ++ l.ranks.rest.items)
    × (length taken ≡ length keys) × (l.found.entries ≡ put_entries keys taken [])
