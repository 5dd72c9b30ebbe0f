use Rattle.oim_dims.proofs.Shared.{rules, lit<, tests, all_from_yields_List, YieldsList-from_str_split, is_piece}
use Rattle.oim_dims.proofs.unit_text.are_pieces.Goals as goal

pub returns : goal.returns
returns c =
    all_from_yields_List is_piece _ _ _ c.all.ensures.ran
    (YieldsList-from_str_split 42 c.args.side.now (lit< tt) c.split.ensures.text c.split.ensures.has_more c.split.ensures.pattern)
    (λ x b q k. search (rules, tests))
