pub mod Runs
pub mod Sides
mod Kept
mod Counts
mod Changes
mod References
pub mod Firsts
