pub mod Prefixes
pub mod Posting
pub mod Settling
pub mod Calling
