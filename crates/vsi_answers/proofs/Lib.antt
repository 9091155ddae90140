pub mod Told
pub mod Views
pub mod Agreement
pub mod Bounded
pub mod Plain
pub mod Begins
mod Cases
mod Finds
mod Flags
mod Marks
mod Walks
