pub mod Finds
mod Listed
