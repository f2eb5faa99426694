pub mod Assigning
pub mod Determined
