pub mod Linked
pub mod Sought
pub mod TableWrites
