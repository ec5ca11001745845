mod Items
mod Walks
pub mod Again
pub mod Loading
pub mod Names
pub mod Numbered
pub mod Opened
pub mod Copied
pub mod FirstHeld
pub mod Ended
pub mod Overs
mod Telling
