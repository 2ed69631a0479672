pub mod Abs
pub mod Sent
pub mod Spoke
pub mod Ruled
pub mod Harbour
pub mod Kept
pub mod Lasts
pub mod Vouches
pub mod Rises
mod Example
