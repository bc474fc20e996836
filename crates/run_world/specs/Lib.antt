pub mod Hearing
pub mod Held
pub mod Voices
pub mod Worlds
