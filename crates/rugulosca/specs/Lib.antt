-- What the calls for other languages leave: the definitions they stand on are those of the crates below.
pub mod Told
pub mod Panel
pub mod Private
