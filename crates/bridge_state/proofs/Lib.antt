pub mod Drops
pub mod Fitting
pub mod Moments
pub mod Following
pub mod Reactions
pub mod Hearing
pub mod Speaking
pub mod Endings
