pub mod Determined
pub mod Walking
pub mod Copying
pub mod Reading
pub mod Fields
