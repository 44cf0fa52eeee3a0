pub mod Exact
pub mod SharpCalls
pub mod Sharpness
pub mod Knowing
pub mod Pruning
pub mod Groups
pub mod Residuals
pub mod Rewritten
