pub mod Answering
pub mod Laying
pub mod Powers
pub mod Types
