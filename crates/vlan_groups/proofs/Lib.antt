pub mod Memberships
pub mod Pvids
pub mod RowLaws
pub mod Switching
pub mod Tying
pub mod UsedSets
pub mod Walks
