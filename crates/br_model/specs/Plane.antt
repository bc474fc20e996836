-- The whole core: a bridge with a switch chip, whose ports may all be of software.
pub mod Chip
pub mod World
pub mod Entering
pub mod Serving
pub mod Sending
pub mod ChipSteps
pub mod Steps
pub mod Traits
pub mod LineTraits
pub mod Runs
