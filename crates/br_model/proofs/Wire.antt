pub mod Bpdus
pub mod Frames
pub mod RecordsFit
