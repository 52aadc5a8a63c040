-- The straight-line displacement between rows, and the greatest draft that a weight bears: the words of demand 3's first sentence.
use Rattle.std.specs.Prelude.{List, [], ◌∷◌, ℕ, ◌*◌, ◌≤◌, ltb}
use Rattle.arithmetic.specs.Choice.{when◌then◌else◌}
use Rattle.hydrostatics.specs.declared.Row.{Row}
use Rattle.loading.specs.Table.{Table, spacing, last_row, line}

-- The straight-line displacement at draft z, times d.
unfoldable pub straight_from : ℕ → Row → List Row → ℕ → ℕ
straight_from d r [] z = r.displacement * d
straight_from d r (s ∷ rest) z =
    when ltb z s.draft then line r.displacement s.displacement r.draft s.draft z
    else straight_from d s rest z

abbrev pub straight : Table → ℕ → ℕ
straight t z = straight_from (spacing t) t.first t.rest z

-- a draft of the table
pub record InTable (t : Table) (z : ℕ) : Type 0 where
  pub shallow : t.first.draft ≤ z
  pub deep : z ≤ (last_row t).draft

-- The greatest whole draft whose straight-line displacement does not exceed W, both sides times d.
pub record Greatest (t : Table) (W draft : ℕ) : Type 0 where
  pub there : InTable t draft
  pub borne : straight t draft ≤ W * spacing t
  pub greatest : (z : ℕ) → InTable t z → straight t z ≤ W * spacing t → z ≤ draft
