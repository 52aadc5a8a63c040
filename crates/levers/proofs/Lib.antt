-- The laws of this crate, for every crate above it.
pub mod Comparing
pub mod Peak
pub mod Tabled
pub mod Summed
pub mod Trying
pub mod Making
pub mod Unique
pub mod Numbered
pub mod Answered
pub mod Order
pub mod Lowered
pub mod Sines
pub mod Figures
