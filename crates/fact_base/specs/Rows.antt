-- Facts grouped by their dimension sets (own).
use Rattle.std.specs.Prelude.{map, ◌≡◌, ◌≢◌, List, [], ◌∷◌, if◌then◌else◌, Contains}
use Rattle.std.specs.List.{All}
use Rattle.std.specs.Ordering.{is_eq}
use Rattle.merge_laws.specs.Sorted.{IsRising, IsSet, entry_key}
use Rattle.oim_value.specs.ValueOrder.{value_cmp}
use Rattle.oim_value.specs.declared.value.Value.{Value}
use Rattle.oim_dims.specs.DimensionSet.{DimensionSet}
use Rattle.oim_dims.specs.FactOrder.{dimensions_cmp, fact_cmp}
use Rattle.oim_dims.specs.declared.fact.Fact.{Fact}

-- a dimension set with the values that are reported for it
abbrev pub Row : Type 0
Row = DimensionSet × List Value

-- the values of the facts with these dimensions
abbrev pub values_at : DimensionSet → List Fact → List Value
values_at s [] = []
values_at s (f ∷ fs) = if is_eq (dimensions_cmp s f.dimensions) then f.value ∷ values_at s fs else values_at s fs

-- adds a fact to the first row if both have the same dimensions; otherwise puts a new row in front
abbrev pub before_rows : Fact → List Row → List Row
before_rows f [] = (f.dimensions, f.value ∷ []) ∷ []
before_rows f (r ∷ rs) = if is_eq (dimensions_cmp f.dimensions r.0) then (r.0, f.value ∷ r.1) ∷ rs else (f.dimensions, f.value ∷ []) ∷ r ∷ rs

-- the rows of ascending facts: adjacent facts with the same dimensions share a row
unfoldable pub rows_of : List Fact → List Row
rows_of [] = []
rows_of (f ∷ fs) = before_rows f (rows_of fs)

-- the dimension sets of the rows ascend strictly, and each fact has a row. A row has exactly the values of the facts with its
-- dimensions: at least one, in strictly ascending order.
pub record AreRowsOf (facts : List Fact) (rows : List Row) : Type 0 where
  pub rise : IsRising dimensions_cmp entry_key rows
  pub values : All (λ r. r.1 ≡ values_at r.0 facts) rows
  pub some : All (λ r. r.1 ≢ []) rows
  pub in_order : All (λ r. IsSet value_cmp r.1) rows
  pub each : All (λ f. Contains (map entry_key rows) f.dimensions) facts

abbrev pub RowsTellFacts : Type 0
RowsTellFacts = (facts : List Fact) → IsSet fact_cmp facts → AreRowsOf facts (rows_of facts)
