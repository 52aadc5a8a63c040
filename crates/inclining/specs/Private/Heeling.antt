-- What shifts come to together, and how large the numbers of a test can be.
use Rattle.std.specs.Prelude.{ℕ, ◌+◌, ◌*◌, ◌/◌, ◌%◌, ◌≤◌, ◌≡◌, List, ◌++◌, map, ltb, true, not, ℤ, pos, length, drop, get_or}
use Rattle.arithmetic.specs.Choice.{when◌then◌else◌}
use Rattle.ranges.specs.Fields.{least, most, item, z_range, shift, displacement, metacentre, test_surface, pendulum, shift_weight, shift_distance, shift_deflection}
use Rattle.ranges.specs.Outside.{first_outside}
use Rattle.ranges.specs.Sizes.{shift_width}
use Rattle.loading.specs.Private.Aboard.{most_in_items}
use Rattle.loading.specs.Total.{total}
use Rattle.loading.specs.declared.Totals.{Totals}
use Rattle.inclining.specs.Inclining.{shift_count, shifts_fit, items_fit, shift_table, off_table, on_table, gm_table}
use Rattle.inclining.specs.Measured.{Shift}
use Rattle.inclining.specs.declared.Heeling.{Heeling}
use Rattle.inclining.specs.declared.Test.{Test}

-- how many tables there are, and the first of a wrong size by its number, or their count
abbrev pub table_count : ℕ
table_count = gm_table + 1

unfoldable pub wrong_table : ℕ → ℕ → ℕ → ℕ → ℕ
wrong_table shifts off on room =
    when not (shifts_fit shifts) then shift_table
    else when not (items_fit off) then off_table
    else when not (items_fit on) then on_table
    else when ltb room (shifts / shift_width) then gm_table
    else table_count

-- the total of weight times distance, and of deflection
abbrev pub heeling_by : List Shift → Heeling
heeling_by shifts = record {
  moment = total (λ s. s.weight * s.distance) shifts;
  deflection = total (λ s. s.deflection) shifts;
}

-- and of one
abbrev pub heeling_of : Shift → Heeling
heeling_of s = record { moment = s.weight * s.distance; deflection = s.deflection }

-- the shift at a place of the table
abbrev pub shift_at : List ℕ → ℕ → Shift
shift_at shifts i =
    record { weight = get_or shifts i 0; distance = get_or shifts (i + 1) 0; deflection = get_or shifts (i + 2) 0 }

abbrev pub gm_by : Test → Heeling → ℕ
gm_by test h = h.moment * test.pendulum / (test.weight * h.deflection)

-- a table with these numbers in front, and what it held beyond them
abbrev pub laid_over : List ℕ → List ℕ → List ℕ
laid_over numbers was = numbers ++ drop (length numbers) was

-- ---- within the ranges
pub record TestInRange (test : Test) : Type 0 where
  pub weight_least : least displacement ≤ test.weight
  pub weight_most : test.weight ≤ most displacement
  pub km_most : test.km ≤ most metacentre
  pub surface_most : test.free_surface ≤ most test_surface
  pub pendulum_most : test.pendulum ≤ most pendulum

pub record ShiftInRange (s : Shift) : Type 0 where
  pub weight_most : s.weight ≤ most shift_weight
  pub distance_most : s.distance ≤ most shift_distance
  pub deflection_least : least shift_deflection ≤ s.deflection
  pub deflection_most : s.deflection ≤ most shift_deflection

-- the shifts of a table: whole records, as many as there may be, each number in its range
pub record ShiftsInRange (shifts : List ℕ) : Type 0 where
  pub whole : length shifts % shift_width ≡ 0
  pub some : least shift_count * shift_width ≤ length shifts
  pub few : length shifts ≤ most shift_count * shift_width
  pub is_in_range : first_outside shift (map pos shifts) ≡ length shifts

-- what so many shifts come to
abbrev pub most_moment : ℕ
most_moment = most shift_count * (most shift_weight * most shift_distance)

abbrev pub most_deflection : ℕ
most_deflection = most shift_count * most shift_deflection

pub record HeelingInRange (h : Heeling) : Type 0 where
  pub moment_most : h.moment ≤ most_moment
  pub deflection_least : least shift_deflection ≤ h.deflection
  pub deflection_most : h.deflection ≤ most_deflection

-- a list of items: whole records, no more than there may be, each number in its range
pub record ListFits (items : List ℤ) : Type 0 where
  pub fits : items_fit (length items) ≡ true
  pub is_in_range : length items ≤ first_outside item items

-- how large its totals are
pub record TotalsInRange (totals : Totals) : Type 0 where
  pub weight_most : totals.weight ≤ most_in_items
  pub vertical_most : totals.vertical ≤ most z_range * most_in_items

-- W · GM is the moment by the length over the deflection, and no more than the moment by the length
abbrev pub most_righting : ℕ
most_righting = most_moment * most pendulum
