pub mod Special
pub mod Settling
pub mod Determined
