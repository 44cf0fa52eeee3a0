pub mod TriedRows
pub mod TryCasts
