pub mod Statuses
pub mod Stopping
pub mod Writing
