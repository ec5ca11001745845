pub mod Image
pub mod Contents
pub mod Header
pub mod Rows
