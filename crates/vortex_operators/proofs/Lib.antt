pub mod Duals
pub mod KleeneNulls
