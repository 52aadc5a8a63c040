-- Tables and particulars whose numbers are all in range, as facts that proofs and private functions rest on, and one range of a row. The numbers are those of `Fields`.
use Rattle.std.specs.Prelude.{ℕ, ◌*◌, ◌≤◌, List, get_or}
use Rattle.ranges.specs.Fields.{Range, ◌to◌, range_of, row_ranges, least, most}
use Rattle.ranges.specs.Limits.{limits}
use Rattle.ranges.specs.declared.Particulars.{Particulars}

pub record ParticularsInRange (p : Particulars) : Type 0 where
  pub n_least : least (range_of 0) ≤ p.n
  pub n_most : p.n ≤ most (range_of 0)
  pub m_least : least (range_of 1) ≤ p.m
  pub m_most : p.m ≤ most (range_of 1)
  pub s_least : least (range_of 2) ≤ p.s
  pub s_most : p.s ≤ most (range_of 2)
  pub d_least : least (range_of 3) ≤ p.d
  pub d_most : p.d ≤ most (range_of 3)
  pub density_least : least (range_of 4) ≤ p.density
  pub density_most : p.density ≤ most (range_of 4)
  pub length_most : p.n * p.s ≤ limits.longest_hull

-- beyond the end there is 0
abbrev pub HalfBreadthsInRange : List ℕ → Type 0
HalfBreadthsInRange table = (k : ℕ) → get_or table k 0 ≤ most (range_of 5)

-- the range of one number of a row, by its place in it
abbrev pub row_range : ℕ → Range
row_range place = get_or row_ranges place (1 to 0)
