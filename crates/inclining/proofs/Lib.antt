-- The laws of this crate, for every crate above it.
pub mod Sized
pub mod Shifts
pub mod Sought
pub mod Lightening
pub mod Trying
pub mod Making
pub mod Answered
pub mod Between
pub mod Height
pub mod Unique
pub mod Order
pub mod Surface
pub mod Figures
pub mod Numbered
