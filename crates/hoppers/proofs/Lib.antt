-- The laws of this crate, for every crate above it.
pub mod Sides
pub mod Trying
pub mod Numerator
pub mod Inertia
pub mod Shifted
pub mod Rectangle
pub mod Answered
pub mod Figures
pub mod Unique
pub mod Order
pub mod Numbered
