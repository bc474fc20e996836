pub mod Counts
pub mod Database
pub mod Places
pub mod Soonest
