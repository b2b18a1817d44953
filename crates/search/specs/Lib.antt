pub mod Paths
pub mod Stops
pub mod Marks
