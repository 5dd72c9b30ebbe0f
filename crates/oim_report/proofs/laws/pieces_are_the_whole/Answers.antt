use Rattle.oim_report.proofs.PiecesInTurn.{both_pieces}
use Rattle.oim_report.proofs.laws.pieces_are_the_whole.Goals as goal

pub returns : goal.returns
returns c = both_pieces
