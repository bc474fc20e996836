pub mod Rows
pub mod StepLines
pub mod RunLines
pub mod Turns
pub mod OwnSteps
pub mod Deliveries
pub mod Tellers
