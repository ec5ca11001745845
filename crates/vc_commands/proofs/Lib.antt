pub mod Named
mod Ran
mod Runs
mod Seats
mod Apart
mod Walking
pub mod Agreeing
pub mod Answered
pub mod Answers
pub mod Auditing
pub mod Emptying
pub mod Firsts
pub mod FoundBlocks
pub mod FoundObjects
pub mod Gone
pub mod Grants
pub mod FreedNames
pub mod Listing
pub mod Lists
pub mod Moving
pub mod Names
pub mod OwnTags
pub mod ByTag
pub mod Placed
pub mod PutBlocks
pub mod Resized
pub mod Resizing
pub mod Seen
pub mod Touching
