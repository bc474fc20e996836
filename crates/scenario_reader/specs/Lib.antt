pub mod Section
pub mod Reading
pub mod Whole
pub mod Passing
