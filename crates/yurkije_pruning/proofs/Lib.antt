pub mod FloatEnds
pub mod PutItems
pub mod Refused
