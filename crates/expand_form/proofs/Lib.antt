pub mod Forms
pub mod Determined
