pub mod Worlds
pub mod Taking
pub mod Draining
