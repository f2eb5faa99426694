pub mod Members
pub mod Determined
