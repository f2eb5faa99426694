pub mod Sounds
pub mod Entering
pub mod Determined
