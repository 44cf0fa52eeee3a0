pub mod Lines
pub mod Commands
pub mod Answering
