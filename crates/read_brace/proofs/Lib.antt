pub mod Showing
pub mod Names
pub mod Braces
pub mod Determined
