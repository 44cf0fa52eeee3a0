pub mod Blanks
pub mod CharacterFaults
pub mod Codes
pub mod Hexadecimal
pub mod Overlays
pub mod Sizes
pub mod Translations
