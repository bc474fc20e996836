pub mod AllLeft
pub mod Completing
pub mod Differences
pub mod LiveRuns
pub mod MadeRead
pub mod SameFrames
pub mod SameRuns
pub mod SameSteps
