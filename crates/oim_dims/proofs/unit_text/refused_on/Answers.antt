use Rattle.oim_dims.proofs.Shared.{rules, lit<, tests, find_from_yields_List, YieldsList-from_str_split, a_name, refuses}
use Rattle.oim_dims.proofs.unit_text.refused_on.Goals as goal

pub returns : goal.returns
returns c =
    find_from_yields_List (λ p. refuses c.args.reason c.args.aliases.now (a_name p)) _ _ _ c.find.ensures.ran
    (YieldsList-from_str_split 42 c.args.side.now (lit< tt) c.split.ensures.text c.split.ensures.has_more c.split.ensures.pattern)
    (λ x b q k. search (rules, tests))
