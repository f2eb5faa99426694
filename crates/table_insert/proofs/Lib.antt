pub mod Placing
pub mod Inserting
pub mod Removing
pub mod Determined
