-- what callers read
pub mod Ops
pub mod Working
pub mod Batch
-- what this crate's proof needs
pub mod Boundaries
pub mod Sharing
