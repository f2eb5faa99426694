pub mod Runs
pub mod Taking
pub mod Walking
pub mod Parts
pub mod Quiet
pub mod Words
pub mod Determined
