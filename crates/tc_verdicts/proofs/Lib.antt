pub mod Places
pub mod Audits
pub mod WrittenLines
pub mod MemberTexts
mod LineRows
