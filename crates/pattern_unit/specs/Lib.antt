pub mod Widths
pub mod Heads
