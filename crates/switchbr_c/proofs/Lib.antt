pub mod Giving
pub mod Looses
pub mod Handles
pub mod Sessions
pub mod Trials
pub mod Asking
