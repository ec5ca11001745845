pub mod OneHash
pub mod ToyPaths
