pub mod Rows
pub mod Covering
pub mod Tying
pub mod Reaching
pub mod Placed
pub mod Doubling
pub mod Pointing
