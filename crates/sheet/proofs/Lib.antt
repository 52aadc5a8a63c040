-- The laws of this crate.
pub mod Naming
