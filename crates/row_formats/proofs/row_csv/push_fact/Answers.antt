use Rattle.row_formats.proofs.Shared.{◌++◌, ◌∷◌, [], ap, ◌∙◌, on_ok_weaker, fields_of, period_text, option_spelled, option_unit_text, cell, defined_text, or_empty, value_fields, braced}
use Rattle.row_formats.proofs.Pushed.{pushed_seven}
use Rattle.row_formats.proofs.row_csv.push_fact.Goals as goal

pub returns : goal.returns
returns c =
    let d = c.args.dimensions.now in
    let shown = cell c.args.cells.spreadsheet in
    let concept = c.in_ok-push_name.ensures ∙ ap (λ n. fields_of c.args.fields.now ++ shown (braced n) ∷ []) c.concept.ensures in
    let entity = c.in_ok-push_entity.ensures ∙ ap (λ o. fields_of c.push_name.new.fields ++ shown (or_empty (option_spelled braced o)) ∷ []) c.entity.ensures in
    let period = c.in_ok-push_period.ensures ∙ ap (λ p. fields_of c.push_entity.new.fields ++ shown (or_empty (period_text p)) ∷ []) c.period.ensures in
    let unit = c.in_ok-push_unit.ensures ∙ ap (λ o. fields_of c.push_period.new.fields ++ shown (or_empty (option_unit_text braced o)) ∷ []) c.unit.ensures in
    let language = c.in_ok-push_text.ensures ∙ ap (λ o. fields_of c.push_unit.new.fields ++ shown (or_empty o) ∷ []) c.language.ensures in
    let defined = c.in_ok-push_defined.ensures ∙ ap (λ ms. fields_of c.push_text.new.fields ++ shown (defined_text ms) ∷ []) c.members.ensures.members in
    on_ok_weaker c.push_value.result
    (λ value. pushed_seven (fields_of c.args.fields.now) (shown (braced d.concept)) (shown (or_empty (option_spelled braced d.entity))) (shown (or_empty (period_text d.period))) (shown (or_empty (option_unit_text braced d.unit))) (shown (or_empty d.language)) (shown (defined_text d.members))
    (value_fields c.args.cells.spreadsheet c.args.value.now) concept entity period unit language defined value)
    c.push_value.ensures
