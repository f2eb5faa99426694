pub mod Going
pub mod Wording
pub mod Bare
pub mod Standing
pub mod Determined
