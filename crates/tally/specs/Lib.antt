-- The running tally: what is aboard, what a step does, the condition after it, and the history of a tally from empty on.
pub mod Tally
pub mod Steps
pub mod Condition
pub mod History
pub mod Private
