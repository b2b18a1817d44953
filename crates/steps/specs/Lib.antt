pub mod Codes
pub mod Types
pub mod Tables
pub mod Format
pub mod Decoding
