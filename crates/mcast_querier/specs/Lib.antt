pub mod Election
pub mod Queries
pub mod Hearing
pub mod Querier
pub mod Runs
pub mod Leaving
pub mod Worked
