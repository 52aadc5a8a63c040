-- Words of private contracts: no public promise is made in them.
pub mod InRange
