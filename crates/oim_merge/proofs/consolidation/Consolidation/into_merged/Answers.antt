use Rattle.oim_merge.proofs.Shared.{ap, ◌∙◌, Contents, Added}
use Rattle.oim_merge.proofs.consolidation.Consolidation.into_merged.Goals as goal

pub returns-clause-base : goal.returns-clause-base
returns-clause-base c =
    c.in_ok-base.ensures ∙ ap (λ (a : Added). let x : Contents = record { sheet = a.sheet; body = a.body } in x) c.self.view_is
