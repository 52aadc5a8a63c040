-- Numbers that know nothing of ships: choice by a test, sums, rounding, whole numbers of either sign, and a text laid into lent room.
pub mod Choice
pub mod Sum
pub mod Rounding
pub mod Signed
pub mod Room
