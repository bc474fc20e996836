pub mod Acts
pub mod Posts
pub mod Calls
pub mod Posted
pub mod Desks
pub use Rattle.plane_record.specs.Pasts
