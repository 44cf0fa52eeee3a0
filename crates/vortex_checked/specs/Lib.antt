pub mod Evidence
pub mod EvidenceLaws
pub mod Exact
pub mod Factor
pub mod Kept
pub mod Reciprocal
