pub mod BigEndian
pub mod Fits
pub mod FrameTypes
pub mod Progress
pub mod Sums
