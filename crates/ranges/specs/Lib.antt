-- The paper's limits, refusals and outcomes, each stated once.
pub mod Refusals
pub mod Outcome
pub mod Reasons
pub mod Limits
pub mod Fields
pub mod Sizes
pub mod Outside
pub mod Bounds
pub mod Numbers
pub mod Sides
pub mod Private
