pub mod Slice
pub mod Slicing
