pub mod Kinds
pub mod Pieces
pub mod Words
pub mod Places
pub mod Around
