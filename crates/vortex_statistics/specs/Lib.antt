pub mod StatisticsView
pub mod Describes
pub mod Parts
pub mod Joined
pub mod Extremes
pub mod Measured
pub mod Unknown
pub mod Replaced
