use Rattle.oim_explain.proofs.Appended.{repeated_none, repeated_then}
use Rattle.oim_explain.proofs.repeated.push_facts.Goals as goal

pub returns-in_default : goal.returns-in_default
returns-in_default c = repeated_none c.args.lines.now

pub loop-index-init : goal.loop-index-init
loop-index-init c = repeated_none c.args.lines.now

pub loop-index-preserved-in-Continue-branch-2 : goal.loop-index-preserved-in-Continue-branch-2
loop-index-preserved-in-Continue-branch-2 c = repeated_then _ _ _ c.loop-index.invariant c.in_ok-push_fact.ensures
