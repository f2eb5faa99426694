pub mod Hands
pub mod Awaits
