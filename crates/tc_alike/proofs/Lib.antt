pub mod Forms
mod Bounds
mod AlikeBytes
pub mod SameOutlines
pub mod AlikeShapes
pub mod OrderedShapes
mod AlikeRecords
