pub mod Resolving
pub mod Refusals
pub mod Elements
