use Rattle.oim_dims.proofs.Shared.{◌∙◌, ap, Some, option_eq, a_name}
use Rattle.oim_names.specs.contracts.reason.ReasonPartialEq.TheImpl.{eq-value as same_reason}
use Rattle.oim_names.proofs.NameTests.{told}
use Rattle.oim_dims.proofs.unit_text.refuses.Goals as goal

pub returns : goal.returns
returns c = c.eq.ensures ∙ ap (λ o. option_eq same_reason.it o (Some c.args.reason)) c.name_refusal.ensures ∙ told c.args.reason c.args.aliases.now (a_name c.args.piece.now)
