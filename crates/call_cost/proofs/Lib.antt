pub mod Answering
pub mod Determined
