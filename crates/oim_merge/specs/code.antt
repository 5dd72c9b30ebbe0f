-- Definitions that no public contract uses: parts of event lines, cached readings, stored texts, buffered rows, traced merges, and a law about verdict lines.
pub mod EventTokens
pub mod Held
pub mod Readings
pub mod BufferedRows
pub mod Outcomes
pub mod SameLine
pub mod Traces
