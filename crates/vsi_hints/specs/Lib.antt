pub mod Offered
pub mod Hints
