use Rattle.row_formats.proofs.RowTexts.{rows_are_one}
use Rattle.row_formats.proofs.laws.rows_are_one.Goals as goal

pub returns : goal.returns
returns c = rows_are_one
