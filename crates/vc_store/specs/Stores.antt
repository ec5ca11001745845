pub mod Stores
pub mod Alike
pub mod AlikeLaws
pub mod Copies
pub mod Loads
pub mod Places
