pub mod Sides
pub mod Shown
pub mod Planes
pub mod Seats
