-- Items of a list, picked by their indices (own).
use Rattle.std.specs.Prelude.{ℕ, ◌+◌, List, ◌++◌, take, slice_index_or, map}

-- the items before index `first`, and then the items at the indices, which start at 0 for index `first`
abbrev pub picked : {E : Type 0} → ℕ → E → List E → List ℕ → List E
picked first d es ks = take first es ++ map (λ k. slice_index_or es (first + k) d) ks
