pub mod Members
pub mod Tiles
pub mod Places
mod NameOrders
mod Taking
mod HeadSteps
mod SortedNames
mod LogSteps
mod LoadSteps
mod Removals
mod ReadSteps
mod OneTiling
mod ComponentFronts
mod LawfulPictures
pub mod LawfulDisks
pub mod LawfulReads
mod TakenFiles
mod NeedlessLeft
mod StoreReads
