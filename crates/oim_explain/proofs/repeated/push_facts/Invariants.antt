use Rattle.oim_explain.specs.code.Added.{AddsRepeated}
use Rattle.oim_explain.proofs.repeated.push_facts.Given as goal

abbrev pub invariant-loop-index : goal.invariant-loop-index
invariant-loop-index l = AddsRepeated l.fn.lines l.lines
