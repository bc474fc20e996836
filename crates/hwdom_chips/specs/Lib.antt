pub mod Chips
pub mod Lending
pub mod Sweep
