pub mod AllSome
pub mod CellRows
pub mod FieldRows
pub mod Numbers
pub mod ShortNumbers
pub mod IntegerTexts
pub mod Apart
pub mod Marks
