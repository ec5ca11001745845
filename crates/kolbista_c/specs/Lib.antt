pub mod Images
pub mod Making
pub mod Memory
pub mod Tasks
