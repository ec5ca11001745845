pub mod Status
pub mod Streams
pub mod Told
pub mod Ending
pub mod Terms
pub mod Refusal
pub mod Comparison
pub mod Reading
