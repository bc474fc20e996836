pub mod Deciding
pub mod Hearing
pub mod Moments
pub mod Monitoring
pub mod Querying
pub mod Saying
pub mod Worlds
