pub mod Typing
pub mod Texts
pub mod Words
