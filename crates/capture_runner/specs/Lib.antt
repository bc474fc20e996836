pub mod Following
pub mod Living
pub mod Outcome
