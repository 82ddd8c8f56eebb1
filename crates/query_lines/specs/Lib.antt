pub mod Commands
pub mod Objects
pub mod Ops
pub mod Replies
pub mod Weights
pub mod WellFormed
