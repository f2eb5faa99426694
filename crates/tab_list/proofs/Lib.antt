pub mod Adding
pub mod Listing
pub mod Determined
pub mod Rounds
