pub mod Determined
pub mod Table
pub mod Parts
