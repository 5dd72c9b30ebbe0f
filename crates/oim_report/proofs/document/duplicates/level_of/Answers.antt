use Rattle.oim_report.proofs.Shared.{sym, ◌∙◌, false≢true}
use Rattle.oim_report.proofs.Passed.{none_apart}
use Rattle.oim_report.proofs.document.duplicates.level_of.Goals as goal

pub returns-in-Err : goal.returns-in-Err
returns-in-Err c = absurd (false≢true (sym (none_apart c.args.facts.now c.in-Err.field-0 c.args.order.now) ∙ c.in-Err.ensures.above))
