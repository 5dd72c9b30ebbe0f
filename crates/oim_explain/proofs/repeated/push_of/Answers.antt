use Rattle.std.proofs.Common.{◌∙◌}
use Rattle.oim_explain.proofs.Appended.{repeated_none, repeated_one, repeated_then}
use Rattle.oim_explain.proofs.repeated.push_of.Goals as goal

pub returns-in_default : goal.returns-in_default
returns-in_default c = repeated_none c.args.lines.now

pub loop-key-init : goal.loop-key-init
loop-key-init c = repeated_none c.args.lines.now

pub loop-key-preserved : goal.loop-key-preserved
loop-key-preserved c = repeated_then _ _ _ c.loop-key.invariant (repeated_one _ _ c.in_ok-push_repeated.ensures)

pub push_repeated-requires : goal.push_repeated-requires
push_repeated-requires c = (_, _, c.as_str.ensures.value ∙ c.in_ok-write.ensures.bytes)
