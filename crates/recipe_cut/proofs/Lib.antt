pub mod Taking
pub mod Saying
pub mod Telling
pub mod Callers
pub mod Determined
