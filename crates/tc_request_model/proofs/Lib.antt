pub mod LineWeight
pub mod RequestWrites
pub mod RenderedLines
