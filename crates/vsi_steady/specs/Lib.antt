pub mod Steady
pub mod Least
pub mod Laws
pub mod Refusal
pub mod Telling
pub mod Looped
pub mod Source
