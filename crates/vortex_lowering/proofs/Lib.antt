mod Powers
mod StoredComparisons
mod StoredResults
mod StoredLiterals
mod TreeTypes
mod LengthenedTrees
mod LengthenedRows
pub mod RowComparisons
pub mod RowResults
pub mod RowBounds
pub mod AlignedRows
