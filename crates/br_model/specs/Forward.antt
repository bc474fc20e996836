-- Where a frame goes by one table, and which share of it is whose.
pub mod Admission
pub mod Targets
pub mod Eligible
pub mod Untagged
pub mod Leave
pub mod Class
pub mod Shares
