pub mod Deciding
pub mod ForeignPorts
pub mod OnePort
pub mod Places
pub mod PortParts
pub mod SetLaws
