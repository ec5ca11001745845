pub mod Counts
pub mod Reach
pub mod Holders
pub mod Working
pub mod CanCount
pub mod Counting
