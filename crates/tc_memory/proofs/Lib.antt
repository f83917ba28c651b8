pub mod TableLemmas
pub mod CallLemmas
pub mod DocumentLaws
