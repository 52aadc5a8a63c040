-- What the call that makes the light ship comes to: "7 .., 4 in the sheet's order with the number's position from 0 as place, then 20 .., 21".
use Rattle.std.specs.Prelude.{ℕ, ◌+◌, ◌/◌, ◌%◌, ◌≡◌, Bool, not, ◌&&◌, List, [], ◌∷◌, map, eqb, ltb, ℤ, pos, length, Result}
use Rattle.arithmetic.specs.Choice.{when◌then◌else◌}
use Rattle.ranges.specs.Fields.{Range, ◌to◌, within, item, inclining, shift}
use Rattle.ranges.specs.Outcome.{Outcome, refused, answer_with, left_with}
use Rattle.ranges.specs.Outside.{first_outside, outside_then}
use Rattle.ranges.specs.Reasons.{paper}
use Rattle.ranges.specs.Refusals.{out_of_range, wrong_size}
use Rattle.ranges.specs.Sizes.{whole_records, item_width, most_items, shift_width}
use Rattle.ranges.specs.declared.refusal.Refusal.{Refusal}
use Rattle.loading.specs.Items.{totals_of_items}
use Rattle.inclining.specs.Light.{lightened}
use Rattle.inclining.specs.Measured.{shifts_of, gm_measured, own_gms}
use Rattle.inclining.specs.declared.LightShip.{LightShip}
use Rattle.inclining.specs.declared.Test.{Test}

-- "2 to 12 shifts"
abbrev pub shift_count : Range
shift_count = 2 to 12

-- so many numbers are whole shifts, and as many as there may be
unfoldable pub shifts_fit : ℕ → Bool
shifts_fit count = eqb (count % shift_width) 0 && within shift_count (pos (count / shift_width))

-- "two lists of 0 to 32 items each"
abbrev pub items_fit : ℕ → Bool
items_fit = whole_records item_width most_items

-- the places of 7: "shifts 0, lists 1 and 2, GM room below the shifts 3"
abbrev pub shift_table : ℕ
shift_table = 0

abbrev pub off_table : ℕ
off_table = 1

abbrev pub on_table : ℕ
on_table = 2

abbrev pub gm_table : ℕ
gm_table = 3

-- the test's own numbers in the sheet's order
abbrev pub numbers_of : Test → List ℕ
numbers_of test = test.weight ∷ test.km ∷ test.free_surface ∷ test.pendulum ∷ []

-- what a test comes to: each shift's own GM, and the light ship
pub record Inclined : Type 0 where
  pub gms : List ℕ
  pub light : LightShip

-- how many numbers there are on the sheet
abbrev pub count : List ℕ → List ℤ → List ℤ → ℕ
count shifts off on = length inclining + (length shifts + (length off + length on))

module _ (test : Test) (shifts : List ℕ) (off on : List ℤ) where
  -- the position of the first number out of its range, or how many there are
  unfoldable pub outside : ℕ
  outside =
      outside_then inclining (map pos (numbers_of test))
      (outside_then shift (map pos shifts)
      (outside_then item off
      (first_outside item on)))

  -- the light ship by the GM measured; each shift's own beside it
  abbrev pub inclined : Outcome Inclined
  inclined =
      answer_with (λ ship. record { gms = own_gms test (shifts_of shifts); light = ship })
      (lightened test (totals_of_items off) (totals_of_items on) (gm_measured test (shifts_of shifts)))

  -- with so much room for the GMs
  unfoldable pub inclined_of : ℕ → Outcome Inclined
  inclined_of room =
      when not (shifts_fit (length shifts)) then refused wrong_size shift_table
      else when not (items_fit (length off)) then refused wrong_size off_table
      else when not (items_fit (length on)) then refused wrong_size on_table
      else when ltb room (length shifts / shift_width) then refused wrong_size gm_table
      else when ltb outside (count shifts off on) then refused out_of_range outside
      else inclined

-- of what a test comes to, the light ship; and "in a lent table, each shift's own GM": beyond the last shift it stays as it was, and all of it after a refusal
abbrev pub ship_of : Outcome Inclined → Outcome LightShip
ship_of = answer_with (λ i. i.light)

abbrev pub table_after : Outcome Inclined → List ℕ → List ℕ
table_after = left_with (λ i. i.gms)

pub record MakesLightShip (test : Test) (shifts : List ℕ) (off on : List ℤ) (gms gmsAfter : List ℕ) (answer : Result LightShip Refusal) : Type 0 where
  pub answer_is : paper answer ≡ ship_of (inclined_of test shifts off on (length gms))
  pub left : gmsAfter ≡ table_after (inclined_of test shifts off on (length gms)) gms
