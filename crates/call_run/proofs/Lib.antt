pub mod Answering
pub mod Drafting
pub mod Working
pub mod Determined
