-- Definitions that no public contract uses.
pub mod Few
pub mod Insertions
pub mod Items
pub mod SummaryLaws
pub mod UnionLaws
