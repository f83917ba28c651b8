pub mod Following
pub mod RunLaws
pub mod RunPairs
pub mod Walks
pub mod KeyedPlaces
pub mod Shown
pub mod Suffixes
pub mod LoadedContents
mod PolicyRows
