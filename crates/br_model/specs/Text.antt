-- The texts: scenario and transcript.
pub mod Words
pub mod Roster
pub mod Declarations
pub mod FlagWords
pub mod IpWords
pub mod Spelling
pub mod Operands
pub mod Forms
pub mod CommandForms
pub mod LineForms
pub mod Scenario
pub mod Head
pub mod ScenarioText
pub mod Transcript
