use Rattle.oim_report.proofs.Shared.{◌≡◌, map, drop, bytes_eq, list_any}
use Rattle.oim_report.proofs.json_values.json_tree.is_one_of.Given as goal

abbrev pub invariant-loop-name : goal.invariant-loop-name
invariant-loop-name l = list_any (λ k. bytes_eq k l.key) (map (λ s. s.now) (drop l.name-index l.known)) ≡ list_any (λ k. bytes_eq k l.key) (map (λ s. s.now) l.known)
