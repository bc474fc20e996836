pub mod Sides
pub mod Worlds
pub mod Cuts
pub mod Points
