-- What the stores, devices and shelves in memory show.
pub mod Watch
pub mod DeviceCalls
pub mod Device
pub mod Frozen
pub mod DeviceLaws
pub mod Disk
pub mod Store
pub mod Names
pub mod Remains
pub mod Shelf
pub mod StoreLaws
