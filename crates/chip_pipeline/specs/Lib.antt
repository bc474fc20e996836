pub mod PortRows
pub mod Passed
pub mod Ways
pub mod Outs
