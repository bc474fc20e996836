pub mod Misplaced
pub mod Cuts
