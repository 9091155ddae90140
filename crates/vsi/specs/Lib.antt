pub mod Laws
pub mod Shortened
