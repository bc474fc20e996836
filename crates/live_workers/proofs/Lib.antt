pub mod Givens
pub mod Places
pub mod Testing
pub mod Known
