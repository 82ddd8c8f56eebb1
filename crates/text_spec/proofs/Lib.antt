pub mod Downward
pub mod Lengths
pub mod Walk
pub mod Widths
pub mod Bytes
pub mod Repaired
pub mod Denoting
pub mod Units
pub mod Decoding
pub mod Indices
mod RoundingExamples
pub mod Replacing
pub mod Listed
