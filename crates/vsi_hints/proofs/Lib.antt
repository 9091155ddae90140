pub mod Texts
pub mod Appends
