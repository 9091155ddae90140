mod MarkLemmas
mod FirstLemmas
mod VerifyLemmas
mod Loops
pub mod Numbers
pub mod Instrs
pub mod Globals
pub mod Heads
pub mod Images
pub mod Limited
