pub mod Moves
pub mod Determined
pub mod Settling
