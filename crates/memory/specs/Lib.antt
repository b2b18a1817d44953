pub mod Bytes
pub mod State
pub mod Rules
pub mod Import
pub mod Tied
pub mod Links
