pub mod Finding
pub mod Finds
pub mod Objects
pub mod Rules
pub mod Shapes
pub mod ShapeLaws
