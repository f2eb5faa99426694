pub mod Fitting
pub mod Steps
pub mod Standing
pub mod Holding
pub mod Waiting
pub mod Determined
