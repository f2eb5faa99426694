pub mod Counting
pub mod Putting
pub mod Gaps
pub mod Determined
