pub mod Writing
pub mod Answers
pub mod Determined
