pub mod Request
pub mod Light
pub mod Paths
pub mod Equal
pub mod Reply
pub mod Rows
pub mod Rendered
pub mod Part
