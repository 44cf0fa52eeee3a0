pub mod FloatFunctions
pub mod FloatRows
pub mod FunctionFits
pub mod PlaceRows
pub mod RootFaults
