-- The laws behind the calls for other languages.
pub mod Telling
pub mod Apart
pub mod Engines
pub mod Panels
