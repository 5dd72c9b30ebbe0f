use Rattle.std.proofs.Common.{lit<}
use Rattle.std.proofs.lemmas.List.{get_or-replicate}
use Rattle.std.proofs.lemmas.Nat.{mod_below}
use Rattle.oim_names.specs.Positions.{text_class}
use Rattle.oim_names.proofs.position_cache.PositionCache.new.Goals as goal

-- src/position_cache.rt:29:5
pub returns : goal.returns
unfolding text_class
returns c text = get_or-replicate 2048 (text_class text) 0 0 (mod_below _ 2048 (lit< tt))
