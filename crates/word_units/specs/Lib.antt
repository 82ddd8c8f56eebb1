use Rattle.word_units.specs.Parts.{Part}
pub mod Parts
pub mod Filling
pub mod Owned
pub mod Walking
pub mod Running
pub mod Packing
pub mod Counting
