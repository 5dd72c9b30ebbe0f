-- Definitions that no public contract uses.
pub mod Ties
