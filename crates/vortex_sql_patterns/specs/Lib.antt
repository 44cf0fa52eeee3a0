pub mod Items
pub mod Matched
pub mod PatternFunctions
pub mod Patterns
pub mod RegexpExtract
pub mod RegexpReplace
pub mod Replacing
pub mod Lookups
