pub mod Copies
pub mod Found
pub mod Image
pub mod Promises
pub mod Over
