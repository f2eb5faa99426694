pub mod Frames
pub mod Spots
pub mod Numbering
pub mod Determined
