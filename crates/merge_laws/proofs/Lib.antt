pub mod Shared
pub mod Both
mod Edits
pub mod Ends
mod Indices
mod Listed
mod Lists
pub mod Members
mod Puts
pub mod Rising
mod Swaps
mod Taking
mod Unions
mod Values
