pub mod Fields
pub mod Rules
pub mod Placing
pub mod Layouts
