use Rattle.std.proofs.Common.{lit<, None, Some}
use Rattle.std.proofs.lemmas.Str.Pattern.{strip_prefix_char, strip_suffix_char}
use Rattle.oim_dims.proofs.Sides.{unopened, unclosed}
use Rattle.oim_dims.proofs.unit_text.inner.Goals as goal

pub returns-in-None : goal.returns-in-None
returns-in-None c = unopened c.args.side.now (strip_prefix_char 40 c.args.side.now None c.in-None.ensures.cases (lit< tt))

pub returns-in-None-strip_suffix : goal.returns-in-None-strip_suffix
returns-in-None-strip_suffix c =
    unclosed c.args.side.now c.in-Some.rest.now
    (strip_prefix_char 40 c.args.side.now (Some c.in-Some.rest) c.in-Some.ensures.cases (lit< tt))
    (strip_suffix_char 41 c.in-Some.rest.now None c.in-None-strip_suffix.ensures.cases (lit< tt))
