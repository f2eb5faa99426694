pub mod Searches
pub mod Filling
pub mod Reading
pub mod Standing
pub mod Determined
