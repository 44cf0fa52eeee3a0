pub mod Lent
pub mod Floats
pub mod Pruning
pub mod Verdicts
pub mod Statuses
pub mod Messages
