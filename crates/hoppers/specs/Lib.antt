-- The free surface of a tank that is not a rectangle: its sums, its inertia and moment, and what the call that makes them comes to.
pub mod Surface
pub mod Hopper
pub mod Private
