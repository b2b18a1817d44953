pub mod Numbers
pub mod Objects
pub mod Placings
pub mod Readings
pub mod Ranges
pub mod Slices
