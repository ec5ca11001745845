pub mod Members
pub mod Sweep
pub mod Sorting
pub mod Maximality
pub mod Layouts
