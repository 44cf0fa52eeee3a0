pub mod Capitals
pub mod Joins
pub mod Pads
