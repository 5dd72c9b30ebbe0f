use Rattle.std.proofs.Common.{◌∙◌, ap, rules}
use Rattle.std.specs.Prelude.{option_and_then}
use Rattle.command_line.specs.Words.{number_of}
use Rattle.command_line.proofs.RowReads.{parsed_number}
use Rattle.command_line.proofs.matches.count_in.Goals as goal

pub returns : goal.returns
returns c =
    c.ok.ensures.value ∙ parsed_number c.in_ok-text_in.field-0.now c.parse.result (search rules) ∙ ap (option_and_then number_of) c.in_ok-text_in.ensures
