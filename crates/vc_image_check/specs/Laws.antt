-- Lemmas that laws of types cite: a type can name none of its own crate's proofs.
pub mod Words
pub mod Reading
pub mod Pairs
pub mod Segs
pub mod Lying
pub mod BlockLaws
