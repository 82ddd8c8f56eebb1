pub mod Account
pub mod Counts
pub mod Shares
pub mod Laws
