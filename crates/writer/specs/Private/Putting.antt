-- What the private functions of the writer ask and promise. No promise needs these words.
use Rattle.std.specs.Prelude.{ℕ, ◌/◌, ◌≤◌, ◌≡◌, true, List, ◌++◌, map, ℤ, pos, length}
use Rattle.ranges.specs.Fields.{particulars, half_breadth, item, tank}
use Rattle.ranges.specs.Outcome.{refused}
use Rattle.ranges.specs.Outside.{first_outside, bad_particular}
use Rattle.ranges.specs.Reasons.{number_of}
use Rattle.ranges.specs.Sizes.{points_of, whole_records, item_width, tank_width, most_items, most_tanks}
use Rattle.ranges.specs.declared.Particulars.{Particulars}
use Rattle.ranges.specs.declared.refusal.Refusal.{Refusal}
use Rattle.writer.specs.Writer.{writer_of}
use Rattle.writer.specs.Written.{lines, counted}

-- the writer's first tests, passed: particulars, and 7
pub record RightSizes (p : Particulars) (half_breadths : List ℕ) (items tanks : List ℤ) : Type 0 where
  pub particulars_in : length particulars ≤ bad_particular p
  pub half_breadth_size : length half_breadths ≡ points_of p.n p.m
  pub item_size : whole_records item_width most_items (length items) ≡ true
  pub tank_size : whole_records tank_width most_tanks (length tanks) ≡ true

-- and the next: half-breadths, items, tanks
pub record Passes (p : Particulars) (half_breadths : List ℕ) (items tanks : List ℤ) : Type 0 where
  pub right_sizes : RightSizes p half_breadths items tanks
  pub half_breadths_in : length half_breadths ≤ first_outside half_breadth (map pos half_breadths)
  pub items_in : length items ≤ first_outside item items
  pub tanks_in : length tanks ≤ first_outside tank tanks

-- what the writer refuses, whatever its room
abbrev pub RefusedAs : Particulars → List ℕ → List ℤ → List ℤ → Refusal → Type 0
RefusedAs p half_breadths items tanks r = (room : ℕ) → writer_of p half_breadths items tanks room ≡ refused (number_of r.reason) r.place

-- a table on lines of a width, as many as it fills
abbrev pub rows_text : ℕ → List ℤ → List ℕ
rows_text width table = lines width (length table / width) table

-- a count, and a table on lines of a width
abbrev pub table_text : ℕ → ℕ → List ℤ → List ℕ
table_text count width table = counted count ++ rows_text width table
