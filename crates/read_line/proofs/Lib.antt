pub mod Items
pub mod Naming
pub mod Lines
pub mod Determined
