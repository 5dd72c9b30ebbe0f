pub mod Shared
pub mod Items
pub mod Lengths
pub mod MarkedCells
pub mod Pushed
pub mod RowLengths
pub mod RowTexts
