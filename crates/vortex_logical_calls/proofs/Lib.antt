mod ShippedCalls
pub mod RowMeanings
mod MetKinds
mod AlignedMeanings
mod ShiftedMeanings
