pub mod Items
pub mod Running
pub mod Looping
pub mod Inside
pub mod Determined
pub mod Planning
