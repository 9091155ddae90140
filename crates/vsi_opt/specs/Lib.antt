pub mod Folding
pub mod Folded
pub mod Liveness
pub mod Loops
pub mod Optimised
pub mod Remaining
pub mod Ranges
