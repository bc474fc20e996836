pub mod Following
pub mod Reacting
