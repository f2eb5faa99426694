pub mod Escaping
pub mod Passing
pub mod Again
pub mod Determined
pub mod Finding
