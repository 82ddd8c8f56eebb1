pub mod History
pub mod Checking
pub mod Laws
