pub mod Slots
pub mod Chained
pub mod ChainWrites
pub mod Hashed
