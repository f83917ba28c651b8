-- The laws of the stores, devices and shelves in memory.
pub mod DeviceRecord
pub mod DiskLemmas
pub mod SlotLemmas
pub mod StepLemmas
pub mod FileLemmas
pub mod NamesLemmas
pub mod RemainsLemmas
pub mod PictureLemmas
pub mod ShelfLemmas
