pub mod Listed
pub mod Completed
pub mod Sorts
pub mod Goes
pub mod Rules
pub mod Told
