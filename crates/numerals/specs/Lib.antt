-- A number as text: what a token says, the number that stands at the front of a text, and what is printed; and texts put piece by piece.
pub mod Number
pub mod Front
pub mod Printed
pub mod Pieces
pub mod Private
