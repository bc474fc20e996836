pub mod Lines
pub mod Notices
pub mod Tellers
pub mod Views
pub mod Worked
