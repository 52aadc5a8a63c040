-- The inclining test: GM as measured, the light ship that follows from it, and what the call that makes them comes to.
pub mod Measured
pub mod Light
pub mod Inclining
pub mod Private
