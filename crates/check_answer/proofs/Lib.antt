pub mod CheckEnds
pub mod Finding
pub mod StaysBad
