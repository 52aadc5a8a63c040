-- What the reader promises of a text and three lent tables.
use Rattle.std.specs.Prelude.{ℕ, ◌/◌, ◌≡◌, List, map, ltb, ℤ, nat_abs, length, Result}
use Rattle.arithmetic.specs.Choice.{when◌then◌else◌}
use Rattle.ranges.specs.Limits.{Limits, limits}
use Rattle.ranges.specs.Outcome.{Outcome, refused, answer_with, left_with}
use Rattle.ranges.specs.Outside.{particulars_of}
use Rattle.ranges.specs.Reasons.{paper}
use Rattle.ranges.specs.Refusals.{file_too_long, wrong_size, half_breadth_table, item_table, tank_table}
use Rattle.ranges.specs.Sizes.{item_width, tank_width, room_for_half_breadths_by, room_for_items, room_for_tanks}
use Rattle.ranges.specs.declared.refusal.Refusal.{Refusal}
use Rattle.offsets.specs.File.{Contents, file_by}
use Rattle.offsets.specs.Tokens.{tokens}
use Rattle.offsets.specs.declared.Summary.{Summary}

-- "Reader: 7 (room below" 1,701, "128 or 128 numbers), 1, then left to right", by the text and the lengths of the tables
unfoldable pub reader_by : Limits → List ℕ → ℕ → ℕ → ℕ → Outcome Contents
reader_by allowed text half_breadths items tanks =
    when ltb half_breadths (room_for_half_breadths_by allowed) then refused wrong_size half_breadth_table
    else when ltb items room_for_items then refused wrong_size item_table
    else when ltb tanks room_for_tanks then refused wrong_size tank_table
    else when ltb allowed.longest_file (length text) then refused file_too_long allowed.longest_file
    else file_by (length text) allowed (tokens text)

abbrev pub reader_of : List ℕ → ℕ → ℕ → ℕ → Outcome Contents
reader_of = reader_by limits

-- "the reader answers the particulars and the counts of items and tanks"
abbrev pub summary_of : Contents → Summary
summary_of c = record {
  particulars = particulars_of c.hull;
  items = length c.items / item_width;
  tanks = length c.tanks / tank_width;
}

abbrev pub summarised : Outcome Contents → Outcome Summary
summarised = answer_with summary_of

-- the three lent tables afterwards: the numbers read, and "every place beyond what they filled unchanged"; on a refusal what stood before
pub record ReadInto (outcome : Outcome Contents) (half_breadths halfBreadthsAfter : List ℕ) (items itemsAfter tanks tanksAfter : List ℤ) : Type 0 where
  pub half_breadths_left : halfBreadthsAfter ≡ left_with (λ c. map nat_abs c.half_breadths) outcome half_breadths
  pub items_left : itemsAfter ≡ left_with (λ c. c.items) outcome items
  pub tanks_left : tanksAfter ≡ left_with (λ c. c.tanks) outcome tanks

pub record Reads (text : List ℕ) (half_breadths halfBreadthsAfter : List ℕ) (items itemsAfter tanks tanksAfter : List ℤ) (answer : Result Summary Refusal) : Type 0 where
  pub answer_is : paper answer ≡ summarised (reader_of text (length half_breadths) (length items) (length tanks))
  pub tables_are : ReadInto (reader_of text (length half_breadths) (length items) (length tanks)) half_breadths halfBreadthsAfter items itemsAfter tanks tanksAfter
