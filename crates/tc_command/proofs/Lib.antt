pub mod FormLemmas
pub mod KeyLemmas
pub mod Utf8Lemmas
pub mod ReplyLemmas
pub mod KeyedLineLemmas
