-- A law about the level of duplicates (OIM Common 1.0, `xbrl:allowedDuplicates`).
use Rattle.std.specs.Prelude.{◌≢◌, List}
use Rattle.merge_laws.specs.Sorted.{IsSet}
use Rattle.oim_dims.specs.FactOrder.{fact_cmp}
use Rattle.oim_dims.specs.declared.fact.Fact.{Fact}
use Rattle.oim_report.specs.Duplicates.{level_of}
use Rattle.oim_value.specs.declared.level.Level.TheVariants.{Complete}

-- the level of distinct facts is never `complete`
abbrev pub SetsAreNeverComplete : Type 0
SetsAreNeverComplete = (facts : List Fact) → IsSet fact_cmp facts → level_of facts ≢ Complete
