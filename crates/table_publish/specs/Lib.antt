pub mod Object
pub mod Law
pub mod Content
pub mod Rule
pub mod Packed
pub mod Board
pub mod Shelved
