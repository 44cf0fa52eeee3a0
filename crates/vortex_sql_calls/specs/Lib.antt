pub mod Calls
pub mod Columns
