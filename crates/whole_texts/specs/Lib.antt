pub mod Texts
pub mod Messages
pub mod Stages
pub mod Sessions
pub mod Trials
pub mod Tables
pub mod Runs
