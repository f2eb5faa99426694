pub mod Digits
pub mod Signs
pub mod Determined
