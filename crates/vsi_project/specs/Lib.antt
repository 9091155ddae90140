pub mod Paths
pub mod Names
pub mod Programs
