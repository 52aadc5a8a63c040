-- The laws of this crate, for every crate above it.
pub mod ByPlace
pub mod Curves
pub mod Front
pub mod Exact
pub mod Moments
pub mod Volumes
pub mod Figures
pub mod Sweep
pub mod Running
