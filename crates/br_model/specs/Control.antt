-- What commands, frames and moments make of the table: learning, ageing, snooping, the tree.
pub mod Refusals
pub mod Ends
pub mod Control
pub mod Learning
pub mod Ageing
pub mod Commands
pub mod Snooping
pub mod Course
pub mod TreeReaction
pub mod Reaction
