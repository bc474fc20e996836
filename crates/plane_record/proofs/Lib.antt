pub mod Recording
pub mod Posting
