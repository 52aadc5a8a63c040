-- Words of private contracts: no public promise is made in them.
pub mod Hull
pub mod Sums
pub mod Waterplanes
pub mod Sections
pub mod Table
