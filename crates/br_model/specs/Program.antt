-- What the program makes of its input.
pub mod Runs
pub mod Listings
pub mod Generator
pub mod Summary
pub mod Outcomes
pub mod Checks
pub mod SameSteps
pub mod LiveRun
pub mod LiveRules
pub mod LiveText
