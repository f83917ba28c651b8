pub mod FeedLemmas
pub mod LineLemmas
pub mod NeededReads
pub mod Progress
