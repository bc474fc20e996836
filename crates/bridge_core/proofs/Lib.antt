pub mod Accepting
pub mod Saying
pub mod Seeing
