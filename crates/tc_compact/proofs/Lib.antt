pub mod Relabelled
pub mod Laid
mod ColumnSteps
pub mod Compacts
pub mod Named
pub mod NumberedTrees
pub mod Room
pub mod Agreeing
pub mod NamedSizes
mod Repacks
mod Cut
mod Orders
mod OutlineSteps
mod Outlines
mod AlikeRows
pub mod Meanings
pub mod RoundTrip
