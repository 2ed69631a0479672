pub mod Traces
pub mod Views
pub mod Survivals
pub mod Scans
pub mod CutsBack
pub mod Comebacks
pub mod Encodings
