use Rattle.oim_merge.proofs.Histories.{texts_give_bodies}
use Rattle.oim_merge.proofs.laws.bases_read_back.Goals as goal

pub returns : goal.returns
returns c = texts_give_bodies c.args.base.now.sheet c.args.base.now.body c.sheet-sheet.ensures.fits
