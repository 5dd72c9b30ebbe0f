pub mod Answered
pub mod Checked
pub mod Said
pub mod Listings
