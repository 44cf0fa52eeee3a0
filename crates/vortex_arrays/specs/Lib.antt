pub mod Calls
pub mod Dictionary
pub mod Encoded
pub mod Executing
pub mod Kept
pub mod Laws
pub mod PushDown
pub mod Words
