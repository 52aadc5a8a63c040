-- The offset file: its tokens, what they say, and what the reader promises.
pub mod Tokens
pub mod Reading
pub mod File
pub mod Reader
pub mod Back
pub mod Private
