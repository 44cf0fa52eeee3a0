pub mod Listed
pub mod Distinct
pub mod TruthTests
pub mod Choices
pub mod Monotone
pub mod Sound
pub mod DatesSound
