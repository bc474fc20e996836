pub mod Generating
pub mod Stepping
