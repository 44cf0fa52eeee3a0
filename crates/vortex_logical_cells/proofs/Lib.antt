pub mod StoredRows
pub mod WrittenTexts
