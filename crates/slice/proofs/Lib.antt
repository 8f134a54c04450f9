pub mod Fuel
pub mod SliceLoop
pub mod Stops
