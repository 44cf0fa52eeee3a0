pub mod StoredFields
pub mod StoredTexts
