-- The sheet's lines, from a file's bytes to the printed bytes.
pub mod Lines
pub mod Sheet
pub mod Promise
pub mod Private
