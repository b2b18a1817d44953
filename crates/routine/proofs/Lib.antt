pub mod Texts
pub mod Walks
pub mod Answering
pub mod Sounding
pub mod Judging
pub mod Asking
