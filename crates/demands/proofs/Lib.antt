-- That the demands are met.
pub mod Backs
pub mod Answering
pub mod Longer
pub mod Hoppers
pub mod Inclined
pub mod Profiled
pub mod MissedHulls
pub mod Volumes
pub mod DemandsMet
