pub mod ButLinks
pub mod GapStore
pub mod GapLaws
pub mod Fits
pub mod GapTree
pub mod GapUnique
pub mod Cost
