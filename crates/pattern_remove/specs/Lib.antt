pub mod Shapes
pub mod Cuts
pub mod Bounds
