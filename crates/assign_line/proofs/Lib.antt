pub mod Valuing
pub mod Going
pub mod Standing
pub mod Determined
