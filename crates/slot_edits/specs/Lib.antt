pub mod Words
pub mod Parts
pub mod Texts
pub mod Writes
pub mod Edits
