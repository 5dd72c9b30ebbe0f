use Rattle.row_formats.proofs.RowTexts.{rows_tell_verdicts}
use Rattle.row_formats.proofs.laws.rows_tell_verdicts.Goals as goal

pub returns : goal.returns
returns c = rows_tell_verdicts
