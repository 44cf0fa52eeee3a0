mod Dividing
mod Ends
mod Signs
pub mod WideProduct
