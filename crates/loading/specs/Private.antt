-- Words of private contracts: no public promise is made in them.
pub mod Aboard
pub mod Afloat
pub mod Steady
pub mod Filled
