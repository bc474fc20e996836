pub mod EndedStays
pub mod Followed
pub mod Living
pub mod Outcomes
pub mod MonitorFollowed
