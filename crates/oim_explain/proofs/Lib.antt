pub mod EscapedLaws
pub mod EscapedNames
pub mod Quoting
pub mod Appended
pub mod Explaining
