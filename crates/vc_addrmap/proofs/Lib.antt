pub mod Ascending
pub mod Maps
pub mod Written
pub mod Found
pub mod Added
pub mod Descending
