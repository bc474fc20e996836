pub mod Adding
pub mod Ordered
pub mod HeldRows
pub mod Keeping
pub mod Leaving
pub mod Placing
