pub mod Between
pub mod Floors
pub mod Parts
pub mod Reading
pub mod Spotted
pub mod Moves
pub mod Walks
pub mod Widths
