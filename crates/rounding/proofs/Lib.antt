pub mod Places
pub mod Ascii
pub mod Stepping
