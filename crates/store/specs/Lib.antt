pub mod Cells
pub mod Scalars
pub mod Reading
pub mod Objects
pub mod Placing
