-- What change request 11 asks of an inclining test, sentence by sentence.
use Rattle.std.specs.Prelude.{◌≡◌, true, false, List, [], ◌∷◌, map, ℕ, ◌+◌, ◌*◌, ◌/◌, ◌%◌, ◌≤◌, ◌<◌, ℤ, pos, ◌+ℤ◌, ◌-ℤ◌, ◌*ℤ◌, length, get_or, drop, ◌≤ℤ◌, Ok, Err}
use Rattle.arithmetic.specs.Rounding.{rounded_up}
use Rattle.ranges.specs.Fields.{Range, ◌to◌, within, item}
use Rattle.ranges.specs.declared.refusal.Refusal.{Refusal}
use Rattle.loading.specs.Items.{totals_of_items}
use Rattle.loading.specs.Total.{total}
use Rattle.inclining.specs.Inclining.{MakesLightShip}
use Rattle.inclining.specs.Light.{with_surface, unrounded_moment}
use Rattle.inclining.specs.Measured.{shifts_of, unrounded_gm}
use Rattle.inclining.specs.declared.LightShip.{LightShip}
use Rattle.inclining.specs.declared.Test.{Test}
use Rattle.demands.specs.Answering.{Answer, RefusedWith}

-- "2 to 12 shifts", three numbers each; "two lists of 0 to 32 items each", four numbers an item
pub record SomeShifts (shifts : List ℕ) : Type 0 where
  pub count : ℕ
  pub whole : length shifts ≡ 3 * count
  pub enough : 2 ≤ count
  pub not_too_many : count ≤ 12

pub record FewItems (items : List ℤ) : Type 0 where
  pub count : ℕ
  pub whole : length items ≡ 4 * count
  pub not_too_many : count ≤ 32

-- and room for as many GMs as there are shifts
pub record Sizes (shifts : List ℕ) (off on : List ℤ) (gms : List ℕ) : Type 0 where
  pub shifts_are_fit : SomeShifts shifts
  pub off_fits : FewItems off
  pub on_fits : FewItems on
  pub room : length shifts ≤ 3 * length gms

-- "W 1..17,600,000, KM 0..100,000 and free surface 0..10,240,000,000 of the test, pendulum length 500..10,000 mm"
abbrev pub test_ranges : List Range
test_ranges = 1 to 17_600_000 ∷ 0 to 100_000 ∷ 0 to 10_240_000_000 ∷ 500 to 10_000 ∷ []

abbrev pub test_numbers : Test → List ℤ
test_numbers test = map pos (test.weight ∷ test.km ∷ test.free_surface ∷ test.pendulum ∷ [])

-- "weight 1..20,000 kg, distance 1..16,000 mm and deflection 1..2,000 mm"
abbrev pub shift_ranges : List Range
shift_ranges = 1 to 20_000 ∷ 1 to 16_000 ∷ 1 to 2_000 ∷ []

-- number i of a table of records is in the range of its field; all are; and the first that is not
abbrev pub IsIn : List Range → List ℤ → ℕ → Type 0
IsIn section table i = within (get_or section (i % length section) (1 to 0)) (get_or table i (pos 0)) ≡ true

pub record AllIn (section : List Range) (table : List ℤ) : Type 0 where
  pub each : (i : ℕ) → i < length table → IsIn section table i

pub record FirstOut (section : List Range) (table : List ℤ) (i : ℕ) : Type 0 where
  pub there : i < length table
  pub out : within (get_or section (i % length section) (1 to 0)) (get_or table i (pos 0)) ≡ false
  pub none_before : (j : ℕ) → j < i → IsIn section table j

-- every number of the sheet
pub record InRange (test : Test) (shifts : List ℕ) (off on : List ℤ) : Type 0 where
  pub in_test : AllIn test_ranges (test_numbers test)
  pub in_shifts : AllIn shift_ranges (map pos shifts)
  pub in_off : AllIn item off
  pub in_on : AllIn item on

-- the weight of a list of items, and its vertical moment
abbrev pub kg_of : List ℤ → ℕ
kg_of items = (totals_of_items items).weight

abbrev pub kgmm_of : List ℤ → ℕ
kgmm_of items = (totals_of_items items).vertical

-- "the total of weight times distance", "total deflection", and over them the measured GM
abbrev pub shifted : List ℕ → ℕ
shifted shifts = total (λ s. s.weight * s.distance) (shifts_of shifts)

abbrev pub deflected : List ℕ → ℕ
deflected shifts = total (λ s. s.deflection) (shifts_of shifts)

abbrev pub measured : Test → List ℕ → ℕ
measured test shifts = shifted shifts * test.pendulum / (test.weight * deflected shifts)

-- "Refusals: 7 (shifts 0, lists 1 and 2, GM room below the shifts 3), 4 in the sheet's order with the number's position from 0 as place, then 20 when the light
-- weight is 0 or less, 21 when its moment is negative, both at 0."
pub record RefusedInOrder {test : Test} {shifts : List ℕ} {off on : List ℤ} {gms after : List ℕ} {answer : Answer LightShip} (made : MakesLightShip test shifts off on gms after answer) : Type 0 where
  pub seven_at_0 : (SomeShifts shifts → ⊥) → RefusedWith 7 0 answer
  pub seven_at_1 : SomeShifts shifts → (FewItems off → ⊥) → RefusedWith 7 1 answer
  pub seven_at_2 : SomeShifts shifts → FewItems off → (FewItems on → ⊥) → RefusedWith 7 2 answer
  pub seven_at_3 : SomeShifts shifts → FewItems off → FewItems on → 3 * length gms < length shifts → RefusedWith 7 3 answer
  pub four_in_the_test : Sizes shifts off on gms → (i : ℕ) → FirstOut test_ranges (test_numbers test) i → RefusedWith 4 i answer
  pub four_in_the_shifts : Sizes shifts off on gms → AllIn test_ranges (test_numbers test) → (i : ℕ) → FirstOut shift_ranges (map pos shifts) i → RefusedWith 4 (4 + i) answer
  pub four_to_take_off : Sizes shifts off on gms → AllIn test_ranges (test_numbers test) → AllIn shift_ranges (map pos shifts) → (i : ℕ) → FirstOut item off i
      → RefusedWith 4 (4 + length shifts + i) answer
  pub four_to_put_on : Sizes shifts off on gms → AllIn test_ranges (test_numbers test) → AllIn shift_ranges (map pos shifts) → AllIn item off → (i : ℕ) → FirstOut item on i
      → RefusedWith 4 (4 + length shifts + length off + i) answer
  pub then_twenty : Sizes shifts off on gms → InRange test shifts off on → test.weight + kg_of on ≤ kg_of off → RefusedWith 20 0 answer
  pub then_twenty_one : Sizes shifts off on gms → InRange test shifts off on → kg_of off < test.weight + kg_of on
      → test.weight * test.km + kgmm_of on < test.weight * measured test shifts + test.free_surface + kgmm_of off → RefusedWith 21 0 answer
  pub else_found : Sizes shifts off on gms → InRange test shifts off on → kg_of off < test.weight + kg_of on
      → test.weight * measured test shifts + test.free_surface + kgmm_of off ≤ test.weight * test.km + kgmm_of on → (ship : LightShip) × (answer ≡ Ok ship)

pub record IncliningTest : Type 0 where
  pub refused_in_order : {test : Test} {shifts : List ℕ} {off on : List ℤ} {gms after : List ℕ} {answer : Answer LightShip} (made : MakesLightShip test shifts off on gms after answer) → RefusedInOrder made
  -- nothing lent is written on a refusal; an answer leaves "in a lent table, each shift's own GM by the same formula", and beyond the shifts what stood there
  pub refusals_write_nothing : {test : Test} {shifts : List ℕ} {off on : List ℤ} {gms after : List ℕ} {r : Refusal} → MakesLightShip test shifts off on gms after (Err r) → after ≡ gms
  pub each_shift_has_its_own_gm : {test : Test} {shifts : List ℕ} {off on : List ℤ} {gms after : List ℕ} {ship : LightShip} → MakesLightShip test shifts off on gms after (Ok ship)
      → ((i : ℕ) → i < length shifts / 3 → get_or after i 0 ≡ get_or shifts (3 * i) 0 * get_or shifts (3 * i + 1) 0 * test.pendulum / (test.weight * get_or shifts (3 * i + 2) 0))
      × (length after ≡ length gms) × (drop (length shifts / 3) after ≡ drop (length shifts / 3) gms)
  -- "Measured GM is the total of weight times distance, times the length, over W times total deflection, rounded down": never above that fraction, and less than 1 mm below it
  pub gm_is_the_fraction_rounded_down : {test : Test} {shifts : List ℕ} {off on : List ℤ} {gms after : List ℕ} {ship : LightShip} → MakesLightShip test shifts off on gms after (Ok ship)
      → (ship.measured_gm * (test.weight * deflected shifts) ≤ shifted shifts * test.pendulum)
      × (shifted shifts * test.pendulum < (ship.measured_gm + 1) * (test.weight * deflected shifts))
  -- it lies between the least and the greatest of the shifts' own GMs, as they are given
  pub gm_lies_between_the_shifts : {test : Test} {shifts : List ℕ} {off on : List ℤ} {gms after : List ℕ} {ship : LightShip} → MakesLightShip test shifts off on gms after (Ok ship)
      → ((i : ℕ) × (i < length shifts / 3) × ((j : ℕ) → j < length shifts / 3 → get_or after i 0 ≤ get_or after j 0) × (get_or after i 0 ≤ ship.measured_gm))
      × ((i : ℕ) × (i < length shifts / 3) × ((j : ℕ) → j < length shifts / 3 → get_or after j 0 ≤ get_or after i 0) × (ship.measured_gm ≤ get_or after i 0))
  -- "The vertical moment is W·(KM − GM) less free surface": taking off subtracts kg and kg·z, putting on adds. "The report gives light weight, its moment and KG rounded up"
  pub light_ship_follows_the_formulas : {test : Test} {shifts : List ℕ} {off on : List ℤ} {gms after : List ℕ} {ship : LightShip} → MakesLightShip test shifts off on gms after (Ok ship)
      → (pos ship.weight ≡ pos test.weight -ℤ pos (kg_of off) +ℤ pos (kg_of on))
      × (pos ship.vertical_moment ≡ pos test.weight *ℤ (pos test.km -ℤ pos ship.measured_gm) -ℤ pos test.free_surface -ℤ pos (kgmm_of off) +ℤ pos (kgmm_of on))
      × (ship.vcg ≡ rounded_up ship.vertical_moment ship.weight)
  -- the moment over the weight, rounded up: never below that fraction, and less than 1 mm above it
  pub kg_is_rounded_up : {test : Test} {shifts : List ℕ} {off on : List ℤ} {gms after : List ℕ} {ship : LightShip} → MakesLightShip test shifts off on gms after (Ok ship)
      → (0 < ship.weight) × (ship.vertical_moment ≤ ship.vcg * ship.weight) × (ship.vcg * ship.weight < ship.vertical_moment + ship.weight)
  -- a light ship is never put too low: KG is never below the KG of the unrounded GM over the same sheet, both times the light weight and the fraction's bottom
  pub kg_is_never_too_low : {test : Test} {shifts : List ℕ} {off on : List ℤ} {gms after : List ℕ} {ship : LightShip} → MakesLightShip test shifts off on gms after (Ok ship)
      → let unrounded = unrounded_moment test (totals_of_items off) (totals_of_items on) (unrounded_gm test (shifts_of shifts)) in
      (0 < unrounded.bottom) × (unrounded.top ≤ℤ pos (unrounded.bottom * ship.weight * ship.vcg))
  -- a larger free surface on the test never raises KG: what was answered with it is answered with a smaller one, with the same GM and weight and no lower KG
  pub larger_surface_never_raises_kg : (test : Test) {surface surface' : ℕ} {shifts : List ℕ} {off on : List ℤ} {gms after gms' after' : List ℕ} {answer : Answer LightShip} {ship' : LightShip}
      → surface ≤ surface' → MakesLightShip (with_surface test surface') shifts off on gms' after' (Ok ship') → MakesLightShip (with_surface test surface) shifts off on gms after answer
      → length gms ≡ length gms'
      → (ship : LightShip) × (answer ≡ Ok ship) × (ship'.measured_gm ≡ ship.measured_gm) × (ship'.weight ≡ ship.weight) × (ship'.vcg ≤ ship.vcg)
