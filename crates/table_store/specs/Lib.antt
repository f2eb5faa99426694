pub mod Answers
pub mod Splice
pub mod Holding
