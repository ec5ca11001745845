pub mod Text
pub mod Session
pub mod Script
pub mod Tool
