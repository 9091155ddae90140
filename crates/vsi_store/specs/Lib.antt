pub mod Text
pub mod File
pub mod View
pub mod Compare
pub mod Seal
pub mod Evidence
