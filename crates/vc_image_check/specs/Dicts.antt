pub mod Alone
pub mod Sound
pub mod Taken
pub mod Whole
