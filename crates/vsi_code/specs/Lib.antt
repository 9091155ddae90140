pub mod Needs
pub mod Layout
pub mod Names
pub mod Behaves
pub mod Generated
