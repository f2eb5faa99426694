pub mod Running
pub mod Loading
