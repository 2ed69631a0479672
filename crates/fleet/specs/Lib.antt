pub mod Fleets
pub mod Lends
