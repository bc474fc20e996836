pub mod Leaving
pub mod Reacting
pub mod Changing
pub mod Stepping
pub mod Calling
pub mod Turning
pub mod Entering
pub mod Tickets
