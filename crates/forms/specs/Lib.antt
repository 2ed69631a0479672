pub mod Names
pub mod Meaning
pub mod Said
pub mod Shows
