pub mod Assignings
