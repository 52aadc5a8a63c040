-- The rows of a hull, where a weight falls among them, and the draft there. Their laws: `Places` and `Drafts` of proofs/.
use Rattle.std.specs.Prelude.{List, [], ◌∷◌, ℕ, zero, suc, ◌+◌, ◌-◌, ◌*◌, ◌/◌, eqb, ltb, length}
use Rattle.arithmetic.specs.Choice.{when◌then◌else◌}
use Rattle.hydrostatics.specs.Usable.{row_in}
use Rattle.hydrostatics.specs.declared.Row.{Row}
use Rattle.ranges.specs.Sizes.{row_width}

pub record Table : Type 0 where
  pub first : Row
  pub rest : List Row

-- the table of a lent list of rows: `count` of them from row `from` on
unfoldable pub rows_from : List ℕ → ℕ → ℕ → List Row
rows_from numbers from zero = []
rows_from numbers from (suc count) = row_in numbers from ∷ rows_from numbers (from + 1) count

abbrev pub table_of : List ℕ → ℕ → Table
table_of numbers count = record { first = row_in numbers 0; rest = rows_from numbers 1 (count - 1) }

-- the table of a whole lent list
abbrev pub hull : List ℕ → Table
hull rows = table_of rows (length rows / row_width)

-- "Here d is half of row 0's draft."
abbrev pub spacing : Table → ℕ
spacing t = t.first.draft / 2

abbrev pub last_from : Row → List Row → Row
last_from r [] = r
last_from r (s ∷ rest) = last_from s rest

abbrev pub last_row : Table → Row
last_row t = last_from t.first t.rest

-- Where a weight falls: on a row, being its own weight, or between two rows.
pub data Place : Type 0 where
  on : Row → Place
  between : Row → Row → Place

-- At the last row whose displacement is not above W; between it and the next, unless W is its own weight.
unfoldable pub place_from : Row → List Row → ℕ → Place
place_from r [] W = on r
place_from r (s ∷ rest) W =
    when ltb W s.displacement then (when eqb W r.displacement then on r else between r s)
    else place_from s rest W

abbrev pub place_of : Table → ℕ → Place
place_of t W = place_from t.first t.rest W

-- The row's draft d·k, and between two rows d(W − D)/(D₊ − D) more, rounded down.
abbrev pub draft_at : ℕ → Place → ℕ → ℕ
draft_at d (on r) W = r.draft
draft_at d (between r s) W = r.draft + d * (W - r.displacement) / (s.displacement - r.displacement)

abbrev pub draft_of : Table → ℕ → ℕ
draft_of t W = draft_at (spacing t) (place_of t W) W

-- The straight line from a at lo to b at hi: its height at w, times hi − lo.
abbrev pub line : ℕ → ℕ → ℕ → ℕ → ℕ → ℕ
line a b lo hi w = a * (hi - w) + b * (w - lo)
