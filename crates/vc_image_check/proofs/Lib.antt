pub mod Writing
mod Apart
pub mod Pending
pub mod Marking
pub mod Filling
pub mod SegmentWalks
pub mod Each
pub mod Sorted
pub mod Linking
pub mod Knotting
pub mod Rising
mod Doublings
pub mod NodeWords
pub mod Ordering
pub mod Matching
pub mod Listing
pub mod Owning
pub mod Once
pub mod Passing
pub mod Wholes
pub mod Told
