pub mod Severity
pub mod Titles
pub mod Verdict
pub mod Ways
