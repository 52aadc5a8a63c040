-- The rows of a hull, their display, and what makes a table of rows usable.
pub mod Hull
pub mod Row
pub mod Rows
pub mod Usable
pub mod Display
pub mod Promise
pub mod Private
