pub mod Answers
pub mod Cellwise
pub mod Endings
pub mod Rowwise
