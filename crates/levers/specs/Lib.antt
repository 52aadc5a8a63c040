-- The supply-vessel profile: the sines and their rule, the righting levers, the criterion that they are held against, and what the call that makes them comes to.
pub mod Sines
pub mod SineRule
pub mod Levers
pub mod Criterion
pub mod Promise
pub mod Private
