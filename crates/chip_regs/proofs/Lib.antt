pub mod Numbers
pub mod Fields
pub mod Bits
pub mod Banks
