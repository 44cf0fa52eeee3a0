mod Columns
pub mod MadeRows
pub mod Rows
