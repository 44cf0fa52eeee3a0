pub mod Ranges
pub mod TypeWords
pub mod CellValues
pub mod Cells
pub mod Answering
pub mod Fields
pub mod Escapes
