-- How KM is read and what a tank's free surface is, apart from everything that is made of them: a change of either changes its rule and that rule's law, and nothing above.
use Rattle.std.specs.Prelude.{ℕ}
use Rattle.arithmetic.specs.Rounding.{rounded_up}
use Rattle.loading.specs.Fraction.{Fraction}
use Rattle.loading.specs.Load.{Tank}
use Rattle.loading.specs.Table.{Place}

-- KM where W falls: in mm, as given, and unrounded
pub record KMRule : Type 0 where
  pub given : Place → ℕ → ℕ
  pub unrounded : Place → ℕ → Fraction

-- a tank's free surface, unrounded: a number of parts, of which `unit` are one kg·mm
pub record Surface : Type 0 where
  pub parts : Tank → ℕ
  pub unit : ℕ

-- as given: in kg·mm, rounded up
abbrev pub surface_of : Surface → Tank → ℕ
surface_of s t = rounded_up (s.parts t) s.unit

pub record Rules : Type 0 where
  pub reading : KMRule
  pub surface : Surface
