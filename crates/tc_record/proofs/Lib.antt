pub mod Folds
pub mod Measuring
pub mod Writing
pub mod NumberLengths
pub mod Lengths
pub mod Weights
pub mod Encoded
pub mod Utf8
pub mod Stacks
mod Judged
pub mod ColumnLaws
pub mod Texts
pub mod Scalars
pub mod Labels
pub mod Walks
pub mod Found
pub mod Spelled
pub mod Keyed
pub mod Fitting
pub mod Documents
pub mod Spellings
pub mod ColumnSizes
pub mod NumberColumns
pub mod Placed
mod AsciiTexts
mod Scans
mod Alike
mod LabelsLeft
pub mod Tails
pub mod Cutting
pub mod Reading
pub mod Holding
pub mod Built
pub mod RecordRows
pub mod OneDocument
pub mod StoredRecords
pub mod KnownWalks
mod TokensPassed
pub mod LevelsBehind
mod Told
mod CutNames
mod WholeTexts
pub mod FlatRows
