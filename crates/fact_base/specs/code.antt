-- Definitions that no public contract uses.
pub mod Entries
pub mod Judged
