pub mod Holding
pub mod Digits
pub mod Finding
pub mod Determined
