pub mod Fronts
pub mod Heads
pub mod Loads
pub mod Uneven
pub mod Lending
pub mod Busy
pub mod Regions
mod Sizes
mod Rows
pub mod Begun
mod Rising
pub mod Standing
pub mod Numbers
pub mod Joined
mod LoadedAgain
mod Returning
