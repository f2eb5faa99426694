pub mod Fields
pub mod Lengths
pub mod Same
pub mod Writing
pub mod Walks
pub mod Answers
pub mod Determined
