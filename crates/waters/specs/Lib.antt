pub mod Numbers
pub mod Waters
