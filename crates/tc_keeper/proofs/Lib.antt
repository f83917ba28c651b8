pub mod PlaceLaws
pub mod SharesLeft
mod JobsBeside
mod OwnKeys
pub mod EnginesHeld
mod WindowsHeld
mod ShareWindows
mod EnginesRun
mod KindsGiven
mod NothingRun
mod AnswersTaken
mod SharesRun
mod EngineRan
mod FramesTaken
mod WindowEnds
mod WatchesLent
mod CallsInTurn
mod EnginesMoved
mod EnginesSettled
mod EnginesFlushed
mod SchemasShown
pub mod Causes
pub mod WindowLengths
pub mod EachLaws
pub mod EnginesAsked
pub mod EngineCauses
pub mod EngineWorlds
pub mod ShownParts
pub mod WorldCounts
pub mod OwnWorlds
pub mod KeysWritten
pub mod ScanReplies
pub mod Turns
pub mod ShownWorlds
pub mod FirstShown
mod OwnShown
pub mod ShowLoops
pub mod LendLoops
pub mod KeeperWorlds
pub mod KeeperCounts
pub mod KeeperCalls
pub mod ReadersApart
mod MetDamage
pub mod BegunKeepers
pub mod ScanEnds
