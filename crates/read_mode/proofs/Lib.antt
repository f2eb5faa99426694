pub mod Determined
pub mod Closing
pub mod GoingOn
pub mod Valued
