pub mod Programs
pub mod Running
pub mod Statuses
pub mod Reports
pub mod Messages
pub mod Chunks
pub mod Fields
