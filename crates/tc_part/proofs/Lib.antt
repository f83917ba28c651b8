mod Outcomes
mod Standing
mod JobOutcomes
mod RunEnds
mod ListedBehind
mod FlushedContents
mod FlushOutcomes
mod ReplacedRun
mod MergedContents
mod MergeOutcomes
mod Spelled
mod ListedContents
mod BelowKeys
pub mod ListedDocuments
mod Refusals
mod QueriedRows
mod LiveCounts
mod Handing
mod StagedWrites
mod Creations
pub mod ClosedParts
mod NewestListed
mod StartedLogs
mod SchemaTexts
mod OwnIntervals
mod OwnNames
mod OwnParts
mod OwnOutcomes
pub mod DevicesOut
mod JobDevices
pub mod FreshFiles
mod PartDevices
mod LogOut
mod SweptFiles
