use Rattle.std.proofs.Common.{rules}
use Rattle.oim_dims.proofs.Picture.{pictured_length, pictured_digits}
use Rattle.oim_dims.proofs.moment.number.Goals as goal

pub slice_bounds-number_of-end : goal.slice_bounds-number_of-end
slice_bounds-number_of-end c = let long = pictured_length c.args.text.now c.requires.picture in search rules

pub number_of-requires-clause-digits : goal.number_of-requires-clause-digits
number_of-requires-clause-digits c = pictured_digits c.args.text.now c.args.from c.args.to c.requires.picture c.requires.digits
