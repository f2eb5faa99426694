pub mod Bytes
pub mod Numbered
