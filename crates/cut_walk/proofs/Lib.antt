pub mod Walks
pub mod Deeds
