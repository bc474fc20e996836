pub mod Own
pub mod Marking
pub mod UsedRows
pub mod Filling
pub mod Calm
pub mod Computed
pub mod Waiting
pub mod LinesMore
