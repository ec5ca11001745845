pub mod Counted
pub mod Kept
pub mod Lines
pub mod Once
pub mod Rows
pub mod SoFar
