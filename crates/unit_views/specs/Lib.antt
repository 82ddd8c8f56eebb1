pub mod Elements
pub mod Spots
