pub mod Framing
pub mod TitleLemmas
pub mod Verdicts
pub mod Views
