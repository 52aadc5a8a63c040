-- The words of the command line.
pub mod Names
