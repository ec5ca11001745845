pub mod Dicts
pub mod LayerLaws
pub mod Leaves
pub mod Looks
pub mod Numbers
pub mod Promises
pub mod Sides
pub mod Views
