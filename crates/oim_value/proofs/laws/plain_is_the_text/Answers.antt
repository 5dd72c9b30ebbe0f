use Rattle.oim_value.proofs.PlainLaws.{plain_is_plain, plain_is_one, plain_is_ascii}
use Rattle.oim_value.proofs.laws.plain_is_the_text.Goals as goal

pub returns : goal.returns
returns c = record { plain = plain_is_plain; one = plain_is_one; ascii = plain_is_ascii }
