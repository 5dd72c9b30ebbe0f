pub mod Spelled
pub mod JsonRows
pub mod CsvCells
pub mod CsvRows
pub mod Rows
pub mod SourceRows
pub mod CheckedRows
pub mod code
