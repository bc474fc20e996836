pub mod Telling
pub mod WorkedCaptures
pub mod WrittenCaptures
