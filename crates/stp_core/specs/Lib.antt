pub mod Acting
pub mod Due
pub mod Places
pub mod Settling
