pub mod Homes
pub mod Seeking
pub mod Determined
