pub mod Advancing
pub mod Counting
pub mod Generating
pub mod Halting
pub mod Playing
pub mod Session
pub mod Speaking
