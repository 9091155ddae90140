pub mod OrderLemmas
pub mod Lists
pub mod Joining
pub mod Languages
pub mod Sound
pub mod Complete
pub mod Exact
pub mod Standing
