pub mod Climbs
pub mod Wholes
pub mod Answers
pub mod Plains
