-- The laws of this crate, for every crate above it.
pub mod Pieces
pub mod Fields
pub mod Sheets
pub mod Unique
pub mod Cut
pub mod Layouts
pub mod Numbered
