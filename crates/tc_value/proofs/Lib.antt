pub mod Sizes
pub mod ShapeWalks
