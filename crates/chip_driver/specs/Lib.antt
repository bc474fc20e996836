pub mod Shadows
pub mod Settled
pub mod Renewing
pub mod Making
pub mod GroupRows
pub mod Drives
pub mod Shares
pub mod Keeping
