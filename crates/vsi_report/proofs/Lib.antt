pub mod EscapeLemmas
pub mod CoveringLemmas
pub mod NameLemmas
pub mod FlowsGraphLemmas
pub mod BannerLemmas
pub mod FilledLemmas
