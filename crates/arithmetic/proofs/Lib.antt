-- The laws of this crate, for every crate above it.
pub mod Only
pub mod Choice
pub mod Tests
pub mod Algebra
pub mod Sums
pub mod Variance
pub mod Rounding
pub mod Products
pub mod Ring
pub mod Polynomial
pub mod Integer
pub mod Whole
pub mod Crossing
pub mod Differences
pub mod Floats
pub mod Parts
pub mod Room
