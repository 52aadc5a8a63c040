-- The loading condition: what is aboard, where it floats, how stable it is, and demand 3.
pub mod Fraction
pub mod Total
pub mod Load
pub mod Records
pub mod Table
pub mod Straight
pub mod Rules
pub mod Stability
pub mod Paper
pub mod Demand
pub mod Figures
pub mod Condition
pub mod Beside
pub mod Items
pub mod Promise
pub mod Private
