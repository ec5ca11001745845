pub mod Reading
pub mod Contents
pub mod Answers
pub mod Tries
pub mod Collections
pub mod Moves
pub mod Stores
