pub mod Nodes
pub mod NodeLaws
pub mod WordWrites
pub mod Ordered
pub mod Seeking
pub mod Cost
