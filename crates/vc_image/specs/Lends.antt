pub mod Terms
pub mod Lends
pub mod Regions
