pub mod Disks
pub mod Worlds
pub mod Promises
pub mod Rising
pub mod Cases
