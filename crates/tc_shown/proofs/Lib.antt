mod NewestWrites
mod NewestDocuments
mod SnapshotPairs
pub mod StorableTables
pub mod ShownParts
pub mod ShownHistories
pub mod Turns
pub mod Remembered
pub mod PassLaws
pub mod ShownPairs
pub mod UnitedRows
