pub mod Index
pub mod Searched
pub mod Notes
