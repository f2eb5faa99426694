pub mod Homes
pub mod Sought
