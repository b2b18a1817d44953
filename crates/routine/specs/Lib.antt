pub mod Flow
pub mod Body
pub mod Rules
pub mod Claims
pub mod Numbers
pub mod Text
pub mod Graph
