pub mod Options
pub mod Packs
