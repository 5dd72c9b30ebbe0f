use Rattle.oim_dims.proofs.Shared.{rules, lit<, tests, all_from_yields_List, YieldsList-from_str_split, is_group}
use Rattle.oim_dims.proofs.language.are_groups.Goals as goal

pub returns : goal.returns
returns c =
    all_from_yields_List is_group _ _ _ c.all.ensures.ran
    (YieldsList-from_str_split 45 c.args.text.now (lit< tt) c.split.ensures.text c.split.ensures.has_more c.split.ensures.pattern)
    (λ x b q k. search (rules, tests))
