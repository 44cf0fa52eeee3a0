pub mod ErrorTexts
pub mod NameLaws
pub mod Names
pub mod Scales
pub mod Standard
pub mod StandardLaws
