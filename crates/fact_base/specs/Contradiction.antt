-- Contradictions between facts of a numeric dimension set, defined by their intervals and by nil (XBRL working group note on
-- duplicate facts; nil is own).
use Rattle.std.specs.Prelude.{◌≡◌, ◌↔◌, ⊤, ℤ, List, Some, Contains}
use Rattle.std.specs.FinMap as map
use Rattle.oim_value.specs.Interval.{IsCommonPoint, interval}
use Rattle.oim_value.specs.declared.value.Value.{Value}
use Rattle.oim_value.specs.declared.value.Value.TheVariants.{Nil, Number}
use Rattle.oim_dims.specs.DimensionSet.{DimensionSet}
use Rattle.oim_report.specs.Sheet.{Sheet}
use Rattle.oim_report.specs.declared.concept_kind.ConceptKind.TheVariants.{Numeric}
use Rattle.fact_base.specs.Body.{Body}
use Rattle.fact_base.specs.Fits.{Fits}
use Rattle.fact_base.specs.Rows.{values_at}
use Rattle.fact_base.specs.Verdict.{verdict}
use Rattle.fact_base.specs.declared.verdict.Verdict.TheVariants.{Inconsistent}

-- the sheet lists the concept of these dimensions as numeric
abbrev pub IsNumeric : Sheet → DimensionSet → Type 0
IsNumeric sheet s = map.get sheet.concepts s.concept ≡ Some Numeric

-- both values are numbers, and no number is in both intervals; or exactly one value is nil
abbrev pub Contradict : Value → Value → Type 0
Contradict (Number m d) (Number n e) = ¬ ((units : ℤ) × IsCommonPoint (interval m d) (interval n e) units)
Contradict Nil Nil = ⊥
Contradict Nil w = ⊤
Contradict v Nil = ⊤
Contradict v w = ⊥

-- two of the values contradict each other
pub record HasContradiction (vs : List Value) : Type 0 where
  pub first : Value
  pub second : Value
  pub first_there : Contains vs first
  pub second_there : Contains vs second
  pub contradict : Contradict first second

-- in a body that fits a sheet, a numeric dimension set is inconsistent exactly if two of its values contradict each other
abbrev pub NumericInconsistentIsApart : Type 0
NumericInconsistentIsApart =
    (sheet : Sheet) (b : Body) (s : DimensionSet) → Fits sheet b → IsNumeric sheet s →
    (verdict b.facts s ≡ Some Inconsistent) ↔ HasContradiction (values_at s b.facts)
