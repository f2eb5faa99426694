pub mod Answers
pub mod Rests
pub mod Ways
