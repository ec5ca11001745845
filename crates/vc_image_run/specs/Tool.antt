pub mod Status
pub mod Task
pub mod Told
pub mod Streams
pub mod Shown
pub mod Promises
pub mod Making
