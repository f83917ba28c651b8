pub mod ListLaws
pub mod ListNewest
pub mod ListNames
pub mod ListLookups
pub mod MergedEntries
pub mod Covering
pub mod MergeLaws
pub mod MergedGenerations
pub mod TableLaws
pub mod TableCounts
pub mod FlushLaws
pub mod FlushNames
pub mod WrittenNames
mod MergeRows
mod FlushRows
