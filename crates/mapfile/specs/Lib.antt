pub mod Files
pub mod Rules
pub mod Sections
