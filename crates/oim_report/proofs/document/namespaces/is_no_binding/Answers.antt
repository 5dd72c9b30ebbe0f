use Rattle.oim_report.proofs.Shared.{ap, ◌∙◌, is_none, is_refused_binding}
use Rattle.oim_report.proofs.DocumentHolds.{alone, from_some}
use Rattle.oim_report.proofs.document.namespaces.is_no_binding.Goals as goal

pub returns : goal.returns
returns c =
    from_some c.in_ok-bound.bound c.is_none.result c.is_none.ensures
    ∙ ap is_none c.in_ok-bound.ensures.0
    ∙ alone c.add.result (is_refused_binding c.new-alone.result c.args.prefix.now c.args.uri.now) c.add.ensures.refused c.add.ensures.errors c.in_ok-bound.ensures.1
    ∙ ap (λ bs. is_refused_binding bs c.args.prefix.now c.args.uri.now) c.new-alone.ensures
