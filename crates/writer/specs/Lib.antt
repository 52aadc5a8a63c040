-- The text of an offset file, and what the writer promises.
pub mod Written
pub mod Longest
pub mod Writer
pub mod Private
