-- Definitions that no public contract uses: the items of a JSON array, and a law about the identifiers in rows.
pub mod Items
pub mod RowLength
pub mod SameRows
