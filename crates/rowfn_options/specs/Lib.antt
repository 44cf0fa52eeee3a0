pub mod Statuses
pub mod Fields
pub mod FileNames
