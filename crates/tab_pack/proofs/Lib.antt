pub mod Going
pub mod Determined
pub mod Shown
pub mod Smalls
pub mod Rounds
