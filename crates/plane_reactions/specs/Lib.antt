pub mod Reacted
