pub mod Characters
pub mod Answers
pub mod Places
pub mod Walks
