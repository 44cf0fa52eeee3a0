pub mod SeenMore
pub mod TypeTokens
pub mod Refusing
pub mod Gathering
pub mod Placed
pub mod WordsRead
