-- Dimension sets with duplicates above a level (OIM Common 1.0, `xbrl:allowedDuplicates`; own).
use Rattle.std.specs.Prelude.{◌≡◌, ◌↔◌, IsTrue, ℕ, ◌+◌, Bool, true, false, List, ◌∷◌, ◌++◌, length, Option, Some, None}
use Rattle.std.specs.List.{All}
use Rattle.std.specs.Ordering.{is_le}
use Rattle.oim_value.specs.Level.{level_cmp}
use Rattle.oim_value.specs.declared.level.Level.{Level}
use Rattle.oim_value.specs.declared.level.Level.TheVariants.{Consistent as ConsistentLevel, All as AllLevel}
use Rattle.oim_report.specs.Duplicates.{level_of}
use Rattle.oim_report.specs.Sheet.{Sheet}
use Rattle.fact_base.specs.Body.{Body}
use Rattle.fact_base.specs.Fits.{Fits}
use Rattle.fact_base.specs.Rows.{Row, rows_of}
use Rattle.fact_base.specs.Verdict.{verdict_of}
use Rattle.fact_base.specs.declared.verdict.Verdict.{Verdict}
use Rattle.fact_base.specs.declared.verdict.Verdict.TheVariants.{Complete, Inconsistent}

-- no dimension set is above `all`; only an inconsistent set is above `consistent`; a set is above `complete` and `none` if it has several
-- distinct facts
abbrev pub is_above : Level → Verdict → Bool
is_above AllLevel v = false
is_above ConsistentLevel Inconsistent = true
is_above ConsistentLevel v = false
is_above level Complete = false
is_above level v = true

abbrev pub some_above : Level → Option Verdict → Bool
some_above level None = false
some_above level (Some v) = is_above level v

abbrev pub row_is_above : Level → Row → Bool
row_is_above level r = some_above level (verdict_of r.1)

-- no dimension set of the body is above the level
abbrev pub StaysWithin : Level → Body → Type 0
StaysWithin level b = All (λ r. row_is_above level r ≡ false) (rows_of b.facts)

-- the dimension set with this number, counted from 1, is the first above the level
pub record IsFirstAbove (level : Level) (b : Body) (number : ℕ) : Type 0 where
  pub before : List Row
  pub row : Row
  pub behind : List Row
  pub rows : rows_of b.facts ≡ before ++ row ∷ behind
  pub number_is : number ≡ length before + 1
  pub above : row_is_above level row ≡ true
  pub earlier : All (λ r. row_is_above level r ≡ false) before

-- a body that fits a sheet stays within a level if and only if its canonical text declares that level or a stricter one
abbrev pub AllowedIsDeclared : Type 0
AllowedIsDeclared = (sheet : Sheet) (b : Body) (level : Level) → Fits sheet b → StaysWithin level b ↔ IsTrue (is_le (level_cmp (level_of b.facts) level))
