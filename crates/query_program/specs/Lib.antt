-- what callers read
pub mod Answers
pub mod Ends
pub mod Limits
pub mod Lines
pub mod Statuses
pub mod Summary
pub mod Words
pub mod Use
-- what this crate's proof needs
pub mod Reads
pub mod Runs
pub mod Stops
pub mod Tallied
pub mod Writes
pub mod Whole
pub mod Default
