pub mod Quoting
pub mod Determined
