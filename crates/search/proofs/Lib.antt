pub mod Count
pub mod Frontier
pub mod Reading
pub mod Stopping
pub mod Filling
