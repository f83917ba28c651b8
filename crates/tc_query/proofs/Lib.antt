mod PutRows
pub mod BelowKeys
pub mod AheadKeys
pub mod ShownKeys
pub mod LiveKeys
pub mod StoredKeys
pub mod RowSteps
pub mod Spelled
mod Harms
mod KnownRecords
pub mod WalkSteps
pub mod WindowReads
pub mod ListedRows
pub mod WalkedKeys
pub mod KeyRows
pub mod HeldBelow
