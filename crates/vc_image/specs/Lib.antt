pub mod Save
pub mod Load
pub mod Lends
pub mod Saved
