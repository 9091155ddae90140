pub mod Worded
pub mod Lines
pub mod Kept
mod Below
mod Digits
mod First
mod Shaped
pub mod Counted
