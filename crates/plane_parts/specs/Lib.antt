pub mod Added
pub mod Queued
pub mod Arrivals
pub mod Places
pub mod Sent
