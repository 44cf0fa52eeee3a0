pub mod TextEnds
pub mod Widened
pub mod Actions
pub mod ChunksBetween
pub mod RowsKept
pub mod SameWords
pub mod Lines
