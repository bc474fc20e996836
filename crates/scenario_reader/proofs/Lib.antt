pub mod Packets
pub mod Following
pub mod Cutting
pub mod Passing
pub mod SectionLines
pub mod ScenarioLines
pub mod ScenarioPorts
