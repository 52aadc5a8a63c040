-- What the writer promises of particulars, three tables and lent room.
use Rattle.std.specs.Prelude.{ℕ, ◌+◌, ◌≡◌, Result, not, List, map, ltb, eqb, ℤ, pos, length}
use Rattle.arithmetic.specs.Choice.{when◌then◌else◌}
use Rattle.ranges.specs.Fields.{particulars, half_breadth, item, tank}
use Rattle.ranges.specs.Limits.{Limits, limits}
use Rattle.ranges.specs.Outcome.{Outcome, answered, refused, answer_with, left_with}
use Rattle.ranges.specs.Outside.{first_outside, bad_particular_by}
use Rattle.ranges.specs.Reasons.{paper}
use Rattle.ranges.specs.Refusals.{out_of_range, wrong_size, room_too_short, place_of_half_breadths, place_of_items, place_of_tanks, half_breadth_table, item_table, tank_table}
use Rattle.ranges.specs.Sizes.{points_of, whole_records, item_width, tank_width, most_items, most_tanks}
use Rattle.ranges.specs.declared.Particulars.{Particulars}
use Rattle.ranges.specs.declared.refusal.Refusal.{Refusal}
use Rattle.writer.specs.Written.{text_of}

-- "Writer: particulars, 7 (sizes must be exact; items and tanks whole records, at most 32 and 16), half-breadths, items, tanks, 14", by the length of the room
unfoldable pub writer_by : Limits → Particulars → List ℕ → List ℤ → List ℤ → ℕ → Outcome (List ℕ)
writer_by allowed p half_breadths items tanks room =
    let bad_particular = bad_particular_by allowed p in
    let badHalfBreadth = first_outside half_breadth (map pos half_breadths) in
    let badItem = first_outside item items in
    let badTank = first_outside tank tanks in
    let text = text_of p half_breadths items tanks in
    when ltb bad_particular (length particulars) then refused out_of_range bad_particular
    else when not (eqb (length half_breadths) (points_of p.n p.m)) then refused wrong_size half_breadth_table
    else when not (whole_records item_width most_items (length items)) then refused wrong_size item_table
    else when not (whole_records tank_width most_tanks (length tanks)) then refused wrong_size tank_table
    else when ltb badHalfBreadth (length half_breadths) then refused out_of_range (place_of_half_breadths + badHalfBreadth)
    else when ltb badItem (length items) then refused out_of_range (place_of_items + badItem)
    else when ltb badTank (length tanks) then refused out_of_range (place_of_tanks + badTank)
    else when ltb room (length text) then refused room_too_short (length text)
    else answered text

abbrev pub writer_of : Particulars → List ℕ → List ℤ → List ℤ → ℕ → Outcome (List ℕ)
writer_of = writer_by limits

-- "It answers the length."
abbrev pub length_of : Outcome (List ℕ) → Outcome ℕ
length_of = answer_with length

-- the room afterwards: the text, and what stood beyond it; on a refusal what stood before
abbrev pub room_after : Outcome (List ℕ) → List ℕ → List ℕ
room_after = left_with (λ text. text)

pub record Writes (p : Particulars) (half_breadths : List ℕ) (items tanks : List ℤ) (room room_left : List ℕ) (answer : Result ℕ Refusal) : Type 0 where
  pub answer_is : paper answer ≡ length_of (writer_of p half_breadths items tanks (length room))
  pub left : room_left ≡ room_after (writer_of p half_breadths items tanks (length room)) room
