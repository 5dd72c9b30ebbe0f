-- Definitions that no public contract uses: the parts of a text and the table of prefixes.
pub mod TextPieces
pub mod Table
pub mod Compared
