pub mod States
pub mod Stations
pub mod Wanted
pub mod Needed
