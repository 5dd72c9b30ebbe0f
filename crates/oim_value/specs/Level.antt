-- The duplicate facts that a report may have: the feature `xbrl:allowedDuplicates` and its values (Open Information Model Common
-- 1.0).
use Rattle.std.specs.Prelude.{◌≡◌, ℕ, List, [], ◌∷◌, Option, Some, codes, slice_get}
use Rattle.std.specs.List.{find}
use Rattle.std.specs.Str.{bytes_eq}
use Rattle.std.specs.declared.cmp.Ordering.{Ordering}
use Rattle.std.specs.Ordering.{nat_cmp}
use Rattle.oim_value.specs.declared.level.Level.{Level}
use Rattle.oim_value.specs.declared.level.Level.TheVariants.{Unique, Complete, Consistent, All}

pub record LevelEntry : Type 0 where
  pub index : ℕ
  pub text : List ℕ

-- the rank of a level (0 for the strictest), and the text that declares the level
abbrev pub level_entry : Level → LevelEntry
level_entry Unique = record { index = 0; text = codes "none" }
level_entry Complete = record { index = 1; text = codes "complete" }
level_entry Consistent = record { index = 2; text = codes "consistent" }
level_entry All = record { index = 3; text = codes "all" }

-- all levels, by rank
abbrev pub levels : List Level
levels = Unique ∷ Complete ∷ Consistent ∷ All ∷ []

-- the level that a text declares, if it declares one
abbrev pub level_with : List ℕ → Option Level
level_with t = find (λ l. bytes_eq (level_entry l).text t) levels

-- the strictest level is the least
abbrev pub level_cmp : Level → Level → Ordering
level_cmp x y = nat_cmp (level_entry x).index (level_entry y).index

-- each level is at the index of its rank, so no two levels share a rank
abbrev pub LevelsStandApart : Type 0
LevelsStandApart = (l : Level) → slice_get levels (level_entry l).index ≡ Some l
