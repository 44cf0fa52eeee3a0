pub mod Candidates
pub mod FloatTexts
pub mod Layout
pub mod Leading
pub mod Places
pub mod Scaled
pub mod Widths
