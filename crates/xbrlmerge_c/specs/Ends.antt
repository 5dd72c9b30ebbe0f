-- Concatenated reports, split at their ends (own).
use Rattle.std.specs.Prelude.{◌≤◌, ◌-◌, ℕ, List, [], ◌∷◌, length, take, drop}

-- the ends never decrease, the first is at least `from`, and none is greater than `count`
abbrev pub AreEndsFrom : ℕ → ℕ → List ℕ → Type 0
AreEndsFrom from count [] = Unit {0}
AreEndsFrom from count (end ∷ ends) = (from ≤ end) × ((end ≤ count) × AreEndsFrom end count ends)

abbrev pub AreEnds : List ℕ → List ℕ → Type 0
AreEnds bytes ends = AreEndsFrom 0 (length bytes) ends

abbrev pub between : ℕ → ℕ → List ℕ → List ℕ
between from end bytes = take (end - from) (drop from bytes)

-- the first report begins at `from`, and each later report begins where the report before it ends
abbrev pub reports_from : ℕ → List ℕ → List ℕ → List (List ℕ)
reports_from from bytes [] = []
reports_from from bytes (end ∷ ends) = between from end bytes ∷ reports_from end bytes ends

abbrev pub reports_at : List ℕ → List ℕ → List (List ℕ)
reports_at bytes ends = reports_from 0 bytes ends
