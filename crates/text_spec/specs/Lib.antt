pub mod Text
pub mod Offsets
pub mod Boundaries
pub mod Packed
pub mod Views
pub mod Rounding
pub mod Editing
pub mod Texts
