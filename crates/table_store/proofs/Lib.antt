pub mod Writing
pub mod Placed
pub mod Splices
pub mod StoredImages
pub mod Callers
pub mod Holding
pub mod Determined
