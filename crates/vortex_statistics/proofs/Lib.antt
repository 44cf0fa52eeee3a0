pub mod ValueOrder
pub mod AllNull
pub mod JoinedRows
pub mod JoinedParts
pub mod Widening
pub mod SameRows
pub mod Counting
pub mod MeasuredRows
