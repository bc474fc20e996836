pub mod Building
pub mod Numbers
pub mod Words
pub mod Ordered
