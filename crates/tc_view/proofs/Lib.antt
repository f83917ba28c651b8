pub mod Adding
pub mod Prefixes
pub mod PieceLemmas
pub mod ShareLemmas
pub mod ViewLemmas
pub mod HistoryLaws
pub mod RuleKept
