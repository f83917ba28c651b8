mod GrammarLemmas
mod OptionsLemmas
mod CheckLemmas
pub mod OptionRanges
