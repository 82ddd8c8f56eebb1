pub mod Fields
pub mod Crumbs
