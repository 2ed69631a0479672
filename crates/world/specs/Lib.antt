pub mod Worlds
pub mod Abstract
pub mod Promises
pub mod Rising
pub mod Calls
pub mod Cases
