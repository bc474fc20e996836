-- The spanning tree of IEEE 802.1D-1998, as this profile has it.
pub mod Tree
pub mod Vectors
pub mod Timers
pub mod States
pub mod Sending
pub mod Step
