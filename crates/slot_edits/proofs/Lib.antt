-- the bytes of words, and of the text that an edit makes
pub mod Bytes
pub mod HighBits
pub mod Splices
pub mod Words
pub mod Endings
pub mod Marks
pub mod Packed
pub mod Texts
-- the events
pub mod Writes
pub mod Copies
