pub mod FileLaws
pub mod MomentLemmas
pub mod GateLemmas
pub mod Judged
pub mod NameLemmas
pub mod StopLaws
mod Memory
