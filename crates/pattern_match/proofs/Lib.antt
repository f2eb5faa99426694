pub mod Stars
pub mod Matching
pub mod Ends
pub mod Determined
