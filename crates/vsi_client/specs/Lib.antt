pub mod Changes
pub mod Frames
pub mod Names
pub mod Pieces
pub mod Places
pub mod Renamed
pub mod Respelled
