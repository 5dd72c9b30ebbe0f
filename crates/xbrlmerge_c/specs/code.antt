-- Definitions that no public contract uses: the caller's memory after a call, by status, the reports of a call, and lines in a sink.
pub mod Answers
pub mod Reports
pub mod RowCall
