pub mod Messages
pub mod Sessions
pub mod Whole
pub mod Stages
pub mod Rosters
pub mod Trials
pub mod Runs
pub mod Tables
