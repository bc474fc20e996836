pub mod Fronts
pub mod Stages
pub mod Playing
