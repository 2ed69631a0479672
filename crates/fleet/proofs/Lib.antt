pub mod Boats
pub mod Views
pub mod Words
