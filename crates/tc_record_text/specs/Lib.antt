pub mod KeptLabels
pub mod Left
pub mod Listed
pub mod FlatTexts
pub mod FlatRows
pub mod Skipped
