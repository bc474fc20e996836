pub mod Reacting
pub mod CutChanges
pub mod Turning
pub mod Worlds
pub mod Entering
pub mod Searching
pub mod Making
pub mod CutSteps
