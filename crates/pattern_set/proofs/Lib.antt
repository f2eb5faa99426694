pub mod Words
pub mod Sets
pub mod Gathering
pub mod Determined
