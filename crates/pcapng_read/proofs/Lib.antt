pub mod Cutting
pub mod HavePorts
pub mod Rows
pub mod ReadingBack
