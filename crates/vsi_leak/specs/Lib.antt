pub mod Leaks
pub mod Agreement
pub mod Laws
pub mod Texts
