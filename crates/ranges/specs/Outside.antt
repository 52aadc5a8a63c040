-- Where the first number stands that is out of its range.
use Rattle.std.specs.Prelude.{ℕ, ◌+◌, ◌*◌, ◌%◌, Bool, List, [], ◌∷◌, map, ltb, ℤ, pos, nat_abs, length, get_or}
use Rattle.arithmetic.specs.Choice.{when◌then◌else◌}
use Rattle.ranges.specs.Fields.{Range, ◌to◌, within, particulars, particulars_by, spacing}
use Rattle.ranges.specs.Limits.{Limits, limits}
use Rattle.ranges.specs.declared.Particulars.{Particulars}

-- The place of the first number out of range, in a table of records whose first field is number `place` of the table; the place after the last where all are in range.
-- A record's fields follow one another again and again: number i of the table is of field i modulo the record's width.
unfoldable pub outside_from : List Range → ℕ → List ℤ → ℕ
outside_from section place [] = place
outside_from section place (v ∷ rest) =
    when within (get_or section (place % length section) (1 to 0)) v
    then outside_from section (place + 1) rest
    else place

unfoldable pub first_outside : List Range → List ℤ → ℕ
first_outside section table = outside_from section 0 table

-- The same in tables one after another, places counted on from the first number of the first: of one table, and `further` on in those that follow it.
unfoldable pub outside_then : List Range → List ℤ → ℕ → ℕ
outside_then section table further =
    let outside = first_outside section table in
    when ltb outside (length table) then outside else length table + further

-- the particulars in the file's order
abbrev pub numbers_of : Particulars → List ℤ
numbers_of p = map pos (p.n ∷ p.m ∷ p.s ∷ p.d ∷ p.density ∷ [])

-- and back: the particulars that five numbers make
abbrev pub particulars_of : List ℤ → Particulars
particulars_of five = record {
  n = nat_abs (get_or five 0 (pos 0));
  m = nat_abs (get_or five 1 (pos 0));
  s = nat_abs (get_or five 2 (pos 0));
  d = nat_abs (get_or five 3 (pos 0));
  density = nat_abs (get_or five 4 (pos 0));
}

-- "n·s at most 100,000"
unfoldable pub too_long : Limits → Particulars → Bool
too_long allowed p = ltb allowed.longest_hull (p.n * p.s)

-- The place of the first particular to refuse: one out of its range; then "n·s too large is 4 at s, after all five ranges"; their number where there is none.
unfoldable pub bad_particular_by : Limits → Particulars → ℕ
bad_particular_by allowed p =
    let outside = first_outside (particulars_by allowed) (numbers_of p) in
    when ltb outside (length particulars) then outside
    else when too_long allowed p then spacing
    else length particulars

abbrev pub bad_particular : Particulars → ℕ
bad_particular = bad_particular_by limits
