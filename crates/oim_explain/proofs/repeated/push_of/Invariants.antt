use Rattle.oim_explain.specs.code.Added.{AddsRepeated}
use Rattle.oim_explain.proofs.repeated.push_of.Given as goal

abbrev pub invariant-loop-key : goal.invariant-loop-key
invariant-loop-key l = AddsRepeated l.fn.lines l.lines
