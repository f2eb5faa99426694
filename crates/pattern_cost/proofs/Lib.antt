pub mod Rows
pub mod Marking
pub mod Walking
pub mod Counting
pub mod Matching
pub mod Tallying
pub mod Determined
