pub mod Arithmetic
pub mod Calls
pub mod Operands
