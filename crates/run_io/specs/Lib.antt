pub mod Buffered
pub mod Causes
pub mod Finding
pub mod Memory
pub mod Reading
pub mod Taking
pub mod Writing
