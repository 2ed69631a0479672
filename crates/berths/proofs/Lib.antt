mod Files
mod Tellings
mod Acts
