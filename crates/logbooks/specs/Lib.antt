pub mod Slots
pub mod Ships
pub mod Logs
