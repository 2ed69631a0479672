pub mod Boats
