pub mod Celled
pub mod Settled
