pub mod Escaped
pub mod Quoted
pub mod Lines
pub mod Explained
pub mod code
