pub mod KeyedRows
pub mod PlainRows
