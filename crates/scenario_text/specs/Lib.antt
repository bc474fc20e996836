pub mod Heads
pub mod Items
pub mod Parts
