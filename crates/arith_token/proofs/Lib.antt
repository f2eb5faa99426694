pub mod Lexing
pub mod Determined
