pub mod First
pub mod FirstRules
pub mod LevelBytes
pub mod LevelledRules
pub mod MustBeTrue
pub mod RunLength
pub mod Words
