-- Runs of adjacent facts with equal dimensions (own).
use Rattle.std.specs.Prelude.{◌≡◌, ℕ, List, Option, Some, map, slice_get}
use Rattle.std.specs.Option.{option_map}
use Rattle.oim_dims.specs.DimensionSet.{DimensionSet}
use Rattle.oim_dims.specs.declared.fact.Fact.{Fact}

-- the dimensions of the fact at an index
abbrev pub dimensions_at : List Fact → ℕ → Option DimensionSet
dimensions_at facts i = option_map (λ f. f.dimensions) (slice_get facts i)

-- `starts` has, for each fact, the index of a fact with the same dimensions
abbrev pub HaveDimensionsOf : List Fact → List ℕ → Type 0
HaveDimensionsOf facts starts = map (dimensions_at facts) starts ≡ map (λ f. Some f.dimensions) facts
