-- The text of a file. "The writer puts each count on its own line, then a line for the particulars, one per station, one per item, one per tank;
-- one space between numbers, a line feed after each line."
use Rattle.std.specs.Prelude.{ℕ, zero, suc, ◌+◌, ◌/◌, List, [], ◌∷◌, ◌++◌, map, ℤ, pos, length, take, drop}
use Rattle.numerals.specs.Printed.{printed}
use Rattle.ranges.specs.Fields.{particulars}
use Rattle.ranges.specs.Outside.{numbers_of}
use Rattle.ranges.specs.Sizes.{points_of, item_width, tank_width}
use Rattle.ranges.specs.declared.Particulars.{Particulars}
use Rattle.offsets.specs.Tokens.{space, line_feed}

-- numbers on a line
unfoldable pub line : List ℤ → List ℕ
line [] = line_feed ∷ []
line (v ∷ []) = printed v ++ line_feed ∷ []
line (v ∷ w ∷ rest) = printed v ++ space ∷ line (w ∷ rest)

-- a table on so many lines of a width
unfoldable pub lines : ℕ → ℕ → List ℤ → List ℕ
lines width zero table = []
lines width (suc k) table = line (take width table) ++ lines width k (drop width table)

-- a count on its own line
abbrev pub counted : ℕ → List ℕ
counted k = line (pos k ∷ [])

-- a section of records: their count, and a line for each
unfoldable pub section_text : ℕ → List ℤ → List ℕ
section_text width table = counted (length table / width) ++ lines width (length table / width) table

-- the whole text
unfoldable pub text_of : Particulars → List ℕ → List ℤ → List ℤ → List ℕ
text_of p half_breadths items tanks =
    counted (length particulars)
    ++ line (numbers_of p)
    ++ counted (points_of p.n p.m)
    ++ lines (p.m + 1) (p.n + 1) (map pos half_breadths)
    ++ section_text item_width items
    ++ section_text tank_width tanks
