mod LongRecords
mod DocumentCounts
mod NamedLogs
mod RightLogs
mod CheckedReads
mod CheckedDisks
