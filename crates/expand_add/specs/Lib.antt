pub mod Expanded
pub mod Added
pub mod Steps
pub mod Answers
