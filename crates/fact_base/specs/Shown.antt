-- Rows as contracts see them (own).
use Rattle.std.specs.Prelude.{map, ℕ, List, drop, take}
use Rattle.std.specs.List.{All}
use Rattle.fact_base.specs.Entries.{Entry}
use Rattle.fact_base.specs.Rows.{Row}
use Rattle.fact_base.specs.declared.rows.Row.{Row as Lent}
use Rattle.fact_base.specs.declared.rows.Rows.{Rows}

-- an entry without its summary
abbrev pub row_of : Entry → Row
row_of e = (e.0, e.1.0)

abbrev pub shown : Lent → Row
shown r = (r.dimensions.now, r.values.now)

-- the rows that the iterator has not yet returned
abbrev pub rows_left : Rows → List Row
rows_left r = map row_of (drop r.next r.entries.now)

-- P holds for the URIs of the concepts in the first n rows
abbrev pub HoldForUris : (List ℕ → Type 0) → ℕ → List Row → Type 0
HoldForUris P n rs = All (λ r. P r.0.concept.uri) (take n rs)
