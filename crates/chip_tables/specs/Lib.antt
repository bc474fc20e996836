pub mod Rows
pub mod AddressCells
pub mod GroupCells
pub mod GroupHash
pub mod Blank
pub mod Writing
pub mod Flags
pub mod Stands
