pub mod EndedStays
pub mod Answered
pub mod Reading
