-- The laws of this crate, for every crate above it.
pub mod Wholes
pub mod Decimal
pub mod Numbers
pub mod Padded
pub mod Printed
pub mod Fronts
pub mod Taken
pub mod Said
pub mod Prints
pub mod Pieces
