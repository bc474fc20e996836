pub mod Fdb
pub mod Packing
pub mod Places
pub mod Counts
pub mod Kept
pub mod Stations
