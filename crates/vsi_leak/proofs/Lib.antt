pub mod Agreement
pub mod Counts
pub mod Exact
pub mod Leaks
pub mod Rows
pub mod Ones
pub mod Tries
