pub mod Readings
pub mod Checks
pub mod Ends
pub mod Faults
pub mod Why
pub mod Requests
pub mod Replicas
pub mod Explained
mod RowReads
mod Parsed
mod KnownNames
mod Reached
pub mod Asking
pub mod ListedNames
pub mod Steps
mod OneExplained
pub mod OneRun
