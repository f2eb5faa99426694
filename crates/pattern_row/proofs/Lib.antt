pub mod Keeping
pub mod Plain
pub mod Determined
