pub mod Lines
pub mod Comparing
pub mod Besides
pub mod Checking
