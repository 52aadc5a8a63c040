-- The seven numbers of a row, "each rounded down once", from its five sums. Their ranges: `Fields` of ranges.
use Rattle.std.specs.Prelude.{ℕ, ◌+◌, ◌*◌, ◌/◌, ◌^◌, List, [], ◌∷◌}
use Rattle.ranges.specs.declared.Particulars.{Particulars}
use Rattle.hydrostatics.specs.Hull.{S, Sz, Sx, Q, C}
use Rattle.hydrostatics.specs.declared.Row.{Row}
use Rattle.hydrostatics.specs.declared.table.Sums.{Sums}

-- "Row r (from 0) belongs to waterline k = r+2"
abbrev pub waterline_of : ℕ → ℕ
waterline_of r = r + 2

-- the five sums of waterline k: S, Sz, Sx, Q and C
abbrev pub sums_at : List ℕ → Particulars → ℕ → Sums
sums_at table p k = record { sum = S table p k; sz = Sz table p k; sx = Sx table p k; q = Q table p k; c = C table p k }

-- the row of waterline k, of any five sums
unfoldable pub row_from : Particulars → ℕ → Sums → Row
row_from p k sums = record {
  draft = p.d * k;
  displacement = p.s * p.d * sums.sum * p.density / 288_000_000_000;
  lcb = p.s * sums.sx / sums.sum;
  kb = p.d * sums.sz / sums.sum;
  bm = 8 * sums.c / (p.d * sums.sum);
  km = (p.d ^ 2 * sums.sz + 8 * sums.c) / (p.d * sums.sum);
  area = p.s * sums.q / 12;
}

-- and of a hull's
abbrev pub row_at : List ℕ → Particulars → ℕ → Row
row_at table p k = row_from p k (sums_at table p k)

abbrev pub row_of : List ℕ → Particulars → ℕ → Row
row_of table p r = row_at table p (waterline_of r)

-- the seven, in the paper's order
abbrev pub numbers_of : Row → List ℕ
numbers_of row = row.draft ∷ row.displacement ∷ row.lcb ∷ row.kb ∷ row.bm ∷ row.km ∷ row.area ∷ []
