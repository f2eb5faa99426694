pub mod Places
pub mod Determined
pub mod Parts
