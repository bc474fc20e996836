pub mod Extends
pub mod Lines
pub mod Reading
pub mod Frames
