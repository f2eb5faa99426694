pub mod Saying
pub mod Turns
pub mod Determined
