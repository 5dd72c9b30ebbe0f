use Rattle.oim_report.proofs.Shared.{◌≡◌, drop, list_any, are_apart}
use Rattle.oim_report.proofs.findings.facts_apart.first_beside.Given as goal

-- the level forbids some fact beside the fact at `last` exactly if it forbids one of the remaining facts beside that fact
abbrev pub invariant-loop-one : goal.invariant-loop-one
invariant-loop-one l = list_any (λ one. are_apart l.level l.facts one l.last) (drop l.one-index l.order) ≡ list_any (λ one. are_apart l.level l.facts one l.last) l.order
