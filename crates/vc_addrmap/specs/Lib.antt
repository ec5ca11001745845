pub mod Entries
pub mod EntryLaws
pub mod Map
pub mod MapUnique
pub mod Parts
