pub mod Ranges
pub mod Bitwise
pub mod Shifts
pub mod Operators
pub mod Determined
