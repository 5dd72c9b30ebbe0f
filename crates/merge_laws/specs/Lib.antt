pub mod Ends
pub mod Members
pub mod Picked
pub mod Sorted
pub mod Union
pub mod code
