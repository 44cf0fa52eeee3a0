pub mod FloatBits
