pub mod Units
pub mod Determined
