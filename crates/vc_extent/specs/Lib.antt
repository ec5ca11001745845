pub mod Extent
pub mod Tiles
pub mod Change
pub mod Stretch
pub mod Tiling
