pub mod Cutting
pub mod Passing
pub mod Texts
pub mod Besides
pub mod Comparisons
