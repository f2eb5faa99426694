pub mod Digits
pub mod Places
pub mod Determined
