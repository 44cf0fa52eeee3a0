pub mod Views
pub mod ViewCodes
pub mod Owned
pub mod Asking
pub mod Reading
pub mod Answering
pub mod Pruning
