use Rattle.std.proofs.Common.{rules, tests}
use Rattle.std.proofs.lemmas.Iterator.{YieldsList-from_chars}
use Rattle.std.proofs.lemmas.Iterator.Search.{all_from_yields_List}
use Rattle.oim_explain.specs.Escaped.{is_shown}
use Rattle.oim_explain.proofs.escaped.are_shown.Goals as goal

pub returns : goal.returns
returns c =
    all_from_yields_List is_shown _ _ _ c.all.ensures.ran
    (YieldsList-from_chars c.args.text.now (search rules) (search rules))
    (λ x b q k. search (rules, tests))
