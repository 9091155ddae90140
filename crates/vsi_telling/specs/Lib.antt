pub mod Safe
pub mod Colours
