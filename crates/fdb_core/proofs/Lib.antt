pub mod ByAddress
pub mod Addresses
pub mod Lookups
pub mod Numbers
pub mod Places
pub mod Counts
pub mod Kept
pub mod Oldest
