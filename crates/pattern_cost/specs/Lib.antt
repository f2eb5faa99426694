pub mod Areas
pub mod Counts
