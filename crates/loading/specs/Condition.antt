-- What a loading condition comes to: its numbers, or the first refusal in the paper's order.
use Rattle.std.specs.Prelude.{ℕ, ◌+◌, ◌/◌, Bool, not, ◌&&◌, List, [], ◌∷◌, leb, ltb, ℤ, nat_abs, length}
use Rattle.arithmetic.specs.Choice.{when◌then◌else◌}
use Rattle.hydrostatics.specs.Usable.{usable_up_to}
use Rattle.ranges.specs.Fields.{item, tank}
use Rattle.ranges.specs.Outcome.{Outcome, answered, refused, and_then}
use Rattle.ranges.specs.Outside.{first_outside}
use Rattle.ranges.specs.Refusals.{out_of_range, wrong_size, too_light, too_heavy, contents_above_capacity, place_of_items, place_of_tanks, item_table, tank_table, row_table}
use Rattle.ranges.specs.Sizes.{whole_records, item_width, tank_width, row_width, most_items, most_tanks, least_rows, most_rows}
use Rattle.loading.specs.Load.{Load, weight, vertical_moment_of, transverse_moment_of}
use Rattle.loading.specs.Paper.{paper_rules, default_reading}
use Rattle.loading.specs.Records.{load_of}
use Rattle.loading.specs.Stability.{draft, lcg, free_surface_of, km, gm, heel_of, passes}
use Rattle.loading.specs.Table.{Table, hull, last_row}
use Rattle.loading.specs.declared.Condition.{Condition}
use Rattle.loading.specs.declared.Reading.{Reading}

-- "tanks (one tank's eight numbers for 4, then 13)": from place `place` of the table on
unfoldable pub tanks_from : ℕ → List ℤ → Outcome ℕ
tanks_from place (contents ∷ capacity ∷ x ∷ y ∷ z ∷ length ∷ breadth ∷ density ∷ rest) =
    let outside = first_outside tank (contents ∷ capacity ∷ x ∷ y ∷ z ∷ length ∷ breadth ∷ density ∷ []) in
    when ltb outside tank_width then refused out_of_range (place_of_tanks + (place + outside))
    else when ltb (nat_abs capacity) (nat_abs contents) then refused contents_above_capacity (place_of_tanks + place)
    else tanks_from (place + tank_width) rest
tanks_from place (contents ∷ capacity ∷ x ∷ y ∷ z ∷ length ∷ breadth ∷ []) = answered place
tanks_from place (contents ∷ capacity ∷ x ∷ y ∷ z ∷ length ∷ []) = answered place
tanks_from place (contents ∷ capacity ∷ x ∷ y ∷ z ∷ []) = answered place
tanks_from place (contents ∷ capacity ∷ x ∷ y ∷ []) = answered place
tanks_from place (contents ∷ capacity ∷ x ∷ []) = answered place
tanks_from place (contents ∷ capacity ∷ []) = answered place
tanks_from place (contents ∷ []) = answered place
tanks_from place [] = answered place

-- the numbers of a condition, by a reading of KM
unfoldable pub condition_at : Reading → Table → Load → Condition
condition_at reading t l = record {
  weight = weight l;
  draft = draft t l;
  km = km (paper_rules reading) t l;
  lcg = lcg l;
  vertical_moment = vertical_moment_of l;
  free_surface = free_surface_of (paper_rules reading) l;
  gm = gm (paper_rules reading) t l;
  transverse_moment = transverse_moment_of l;
  heel = heel_of (weight l) (gm (paper_rules reading) t l) (transverse_moment_of l);
  passes = passes (weight l) (gm (paper_rules reading) t l) (transverse_moment_of l);
}

-- W against the table: 11 below the first row, 12 above the last
unfoldable pub floats : Reading → Table → Load → Outcome Condition
floats reading t l =
    when ltb (weight l) t.first.displacement then refused too_light 0
    else when ltb (last_row t).displacement (weight l) then refused too_heavy 0
    else answered (condition_at reading t l)

-- "2 to 19 whole rows", by the length of their table
abbrev pub rows_allowed : ℕ → Bool
rows_allowed count = whole_records row_width most_rows count && leb least_rows (count / row_width)

-- "Condition: 7 (items, tanks, then rows: 2 to 19 whole rows), 10, items, tanks, 11, 12"
unfoldable pub condition_by : Reading → List ℤ → List ℤ → List ℕ → Outcome Condition
condition_by reading items tanks rows =
    let count = length rows / row_width in
    let badItem = first_outside item items in
    when not (whole_records item_width most_items (length items)) then refused wrong_size item_table
    else when not (whole_records tank_width most_tanks (length tanks)) then refused wrong_size tank_table
    else when not (rows_allowed (length rows)) then refused wrong_size row_table
    else and_then (usable_up_to rows count) (λ good.
    when ltb badItem (length items) then refused out_of_range (place_of_items + badItem)
    else and_then (tanks_from 0 tanks) (λ last. floats reading (hull rows) (load_of items tanks)))

-- where no reading is named
abbrev pub condition_of : List ℤ → List ℤ → List ℕ → Outcome Condition
condition_of = condition_by default_reading
