pub mod Audits
pub mod Marks
pub mod Lines
pub mod Worked
