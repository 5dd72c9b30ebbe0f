use Rattle.oim_merge.proofs.Shared.{ap, not, ◌∙◌, is_eq, facts_agree}
use Rattle.oim_dims.specs.contracts.fact.FactOrd.TheImpl.Laws.{matches_eq-law as facts_match}
use Rattle.oim_merge.proofs.checked.differ.Goals as goal

pub returns : goal.returns
returns c = c.ne.ensures ∙ ap not (facts_match c.args.fact.now c.args.next.now ∙ ap is_eq (facts_agree c.args.fact.now c.args.next.now))
