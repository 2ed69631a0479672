pub mod Disks
pub mod Berths
pub mod Calls
pub mod Vessels
pub mod Ports
