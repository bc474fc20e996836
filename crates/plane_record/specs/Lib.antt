pub mod Pasts
pub mod Holds
pub mod Posts
