pub mod Abs
pub mod Bits
pub mod Casts
pub mod Remainder
pub mod Sign
