pub mod Handing
pub mod Copying
pub mod Awaiting
pub mod Determined
