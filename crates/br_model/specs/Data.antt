-- Numbers, digits, finite maps and sets.
pub mod Numbers
pub mod Digits
pub mod Maps
