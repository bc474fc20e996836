pub mod Joined
pub mod Rows
pub mod Tied
pub mod UsedSets
pub mod Vlans
