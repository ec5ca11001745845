pub mod Faultless
pub mod Flags
pub mod Matched
pub mod Ranges
