pub mod Words
pub mod WordsSaid
pub mod Limits
pub mod SaidTyped
