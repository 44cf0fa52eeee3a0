mod Bounds
mod NearestDecimals
