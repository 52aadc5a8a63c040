-- A hull in range, and lists that code fills: what both engines rest on. No definition of a row cites this file.
use Rattle.std.specs.Prelude.{ℕ, ◌<◌, ◌≡◌, List, map, pos, length, get_or}
use Rattle.ranges.specs.Fields.{half_breadth}
use Rattle.ranges.specs.Outside.{first_outside}
use Rattle.ranges.specs.Private.InRange.{ParticularsInRange, HalfBreadthsInRange}
use Rattle.ranges.specs.Sizes.{points_of}
use Rattle.ranges.specs.declared.Particulars.{Particulars}

-- the list has f 0, f 1, … at its first `count` places
pub record Filled {A : Type 0} (none : A) (f : ℕ → A) (count : ℕ) (l : List A) : Type 0 where
  pub at : (i : ℕ) → i < count → get_or l i none ≡ f i

-- a half-breadth of the table is out of range
abbrev pub OneOutside : List ℕ → Type 0
OneOutside table = first_outside half_breadth (map pos table) < length table

-- particulars in range, and a half-breadth for each station and waterline, whatever it is
pub record Complete (table : List ℕ) (p : Particulars) : Type 0 where
  pub particulars : ParticularsInRange p
  pub points : length table ≡ points_of p.n p.m

-- and each of them in range
pub record InRange (table : List ℕ) (p : Particulars) : Type 0 where
  pub complete : Complete table p
  pub half_breadths_ranged : HalfBreadthsInRange table
