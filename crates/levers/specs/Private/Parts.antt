-- Numbers of either sign as two whole ones.
use Rattle.std.specs.Prelude.{ℕ, ◌≡◌, List, ℤ, pos, ◌-ℤ◌, get_or}
use Rattle.levers.specs.declared.parts.Parts.{Parts}

-- what they come to
abbrev pub value : Parts → ℤ
value p = pos p.whole -ℤ pos p.off

-- they are a lever of two tables
pub record IsLever (kn off : List ℕ) (i : ℕ) (p : Parts) : Type 0 where
  pub whole_is : p.whole ≡ get_or kn i 0
  pub off_is : p.off ≡ get_or off i 0
