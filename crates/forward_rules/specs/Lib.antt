pub mod PortSets
pub mod Verdicts
pub mod Decided
