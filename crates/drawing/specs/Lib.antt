pub mod Fields
pub mod Drawn
