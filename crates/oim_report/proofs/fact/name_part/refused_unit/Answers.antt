use Rattle.oim_report.proofs.Shared.{sym, ap, ◌∙◌, option_map, rules, refuses}
use Rattle.oim_report.proofs.ShownFaults.{piece_shown}
use Rattle.oim_report.proofs.fact.name_part.refused_unit.Goals as goal

pub returns-in-Some : goal.returns-in-Some
returns-in-Some c =
    piece_shown (refuses c.args.reason c.args.aliases.now) _ c.in_ok-text.text.now _ (search rules) (sym c.is_unit_text.ensures ∙ c.if-not-is_unit_text.false) (ap (option_map (λ p. p.now)) (sym c.in-Some.is) ∙ c.refused_piece.ensures.first)

pub returns-in-None : goal.returns-in-None
returns-in-None c =
    piece_shown (refuses c.args.reason c.args.aliases.now) _ c.in_ok-text.text.now _ (search rules) (sym c.is_unit_text.ensures ∙ c.if-not-is_unit_text.false) (ap (option_map (λ p. p.now)) (sym c.in-None.is) ∙ c.refused_piece.ensures.first)
