pub mod Copies
pub mod Entries
pub mod Names
pub mod Opens
pub mod State
