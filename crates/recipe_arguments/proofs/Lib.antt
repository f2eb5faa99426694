pub mod Packing
pub mod Lists
pub mod Determined
