pub mod Text
pub mod Counting
pub mod Report
pub mod Sets
