pub mod Rows
pub mod Windows
pub mod BytesOfNumbers
