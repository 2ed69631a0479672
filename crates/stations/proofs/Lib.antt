pub mod Files
mod Recalled
mod Enlisted
