pub mod Powers
pub mod Decoding
pub mod Halves
pub mod Laying
