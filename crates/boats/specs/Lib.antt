pub mod Views
pub mod Openings
