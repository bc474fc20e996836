pub mod ElectLaws
pub mod Firsts
pub mod Idling
pub mod PlaceLaws
pub mod Reading
pub mod Settlements
pub mod Unions
