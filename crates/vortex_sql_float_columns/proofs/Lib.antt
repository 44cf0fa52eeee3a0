pub mod FloatRows
pub mod PlainResults
