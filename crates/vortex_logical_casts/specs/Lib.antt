pub mod Casts
pub mod Roundings
