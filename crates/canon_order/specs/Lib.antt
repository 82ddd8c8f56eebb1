pub mod Equivalence
pub mod Codes
