pub mod WindowLaws
pub mod WindowCuts
pub mod WorldLaws
pub mod UnitedPairs
pub mod ReplyLaws
pub mod KindLaws
mod LineRows
mod WorldRows
