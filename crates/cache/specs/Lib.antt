pub mod Asking
pub mod Blaming
pub mod Tables
