pub mod Telling
pub mod Following
pub mod Arranged
pub mod Sweeping
