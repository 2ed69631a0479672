pub mod Journals
pub mod Deeds
pub mod Boats
pub mod Harbours
pub mod Steps
pub mod Openings
pub mod Laws
pub mod Unheards
