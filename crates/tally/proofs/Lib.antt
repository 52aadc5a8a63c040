-- The laws of the running tally.
pub mod InRange
pub mod AnyOrder
pub mod Slots
pub mod Listings
pub mod Held
pub mod Soundness
pub mod Stepping
pub mod Lists
pub mod Histories
pub mod Numbered
