-- Identifiers of the facts in a dimension set (own). In bytes, `f` is 102.
use Rattle.std.specs.Prelude.{⊤, ℕ, ◌+◌, ◌<◌, List, ◌∷◌}
use Rattle.fact_base.specs.declared.evidence.Evidence.{Evidence}
use Rattle.fact_base.specs.declared.evidence.Evidence.TheVariants.{Alike, Common, Apart}
use Rattle.oim_write.specs.Rank.{padded, width}

-- the identifier of the fact at an index (from 0), given the number of facts before the set and the number of all facts
abbrev pub named : ℕ → ℕ → ℕ → List ℕ
named before count index = 102 ∷ padded (width count) (before + index + 1)

-- the indices in the evidence are less than n
abbrev pub HasIndices : ℕ → Evidence → Type 0
HasIndices n Alike = ⊤
HasIndices n (Common c) = ⊤
HasIndices n (Apart i j) = (i < n) × (j < n)
