-- The laws of this crate, for every crate above it.
pub mod Within
pub mod Outside
mod Held
pub mod Hulls
pub mod Facts
pub mod Longer
pub mod Records
pub mod Outcomes
pub mod Numbered
pub mod Numbers
