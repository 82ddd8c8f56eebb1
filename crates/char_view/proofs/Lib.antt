pub mod Cuts
pub mod Parts
pub mod Chunks
pub mod Stepping
pub mod Indexing
pub mod True
