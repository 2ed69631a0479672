mod Ships
mod Puts
pub mod Falls
mod Covers
mod Noted
pub mod Taking
mod Counts
mod Known
