-- Simpson's first and second rules, joined: the multipliers by the paper's words, the sum over a curve, the areas of cubics, and the integrals of half-breadths given by formula.
pub mod Multipliers
pub mod Curve
pub mod Cubic
pub mod Formula
pub mod Private
