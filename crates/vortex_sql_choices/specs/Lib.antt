pub mod Case
pub mod Coalesce
pub mod Distinct
pub mod Extremes
pub mod InList
pub mod NullIf
pub mod TruthTests
