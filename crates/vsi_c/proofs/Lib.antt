pub mod Going
pub mod Lossless
pub mod Spelled
pub mod Refusals
