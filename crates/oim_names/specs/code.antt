-- Definitions that no public contract uses.
pub mod Exact
pub mod Indexed
