use Rattle.row_formats.proofs.MarkedCells.{formulas_are_marked}
use Rattle.row_formats.proofs.laws.formulas_are_marked.Goals as goal

pub returns : goal.returns
returns c = formulas_are_marked
