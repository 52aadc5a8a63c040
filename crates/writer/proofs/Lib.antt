-- The laws of this crate, for every crate above it: writing, and that what is written is read back.
pub mod Spelled
pub mod Longest
pub mod Tried
pub mod RoundTrip
pub mod Unique
pub mod Calls
pub mod Longer
pub mod Put
pub mod Tables
pub mod Writing
pub mod Numbered
