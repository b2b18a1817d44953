pub mod Area
pub mod Ordered
pub mod Calls
