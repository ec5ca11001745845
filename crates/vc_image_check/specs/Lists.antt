pub mod Sound
pub mod Chained
pub mod Ascending
pub mod Tables
