-- What is refused, and in which order; and that all else is found.
--     shifts_refused, off_refused, on_refused, room_refused            the sizes
--     test_number, shift_number, off_number, on_number                 the first number out of its range
--     weight_refused, moment_refused, else_found                       the light ship
-- Assumes nothing.
use mathlib.Core.Path.{◌≡◌, refl, sym, ap, ◌∙◌}
use mathlib.Core.Bool.{true, false}
use mathlib.Core.List.{List, map}
use Prim.Native.Nat.{ℕ, ◌+◌, ◌-◌, ◌/◌, ◌≤◌, ◌<◌}
use native.Mathlib.Omega.{arith}
use lib.IntN.{ℤ, pos}
use lib.ListN.{length}
use Rattle.std.specs.Prelude.{Result, Ok, Err}
use Rattle.arithmetic.specs.Rounding.{rounded_up}
use Rattle.ranges.specs.Fields.{item, inclining, shift}
use Rattle.ranges.specs.Outcome.{Outcome, refused, answer_with}
use Rattle.ranges.specs.Reasons.{number_of}
use Rattle.ranges.specs.declared.refusal.Reason.{Reason}
use Rattle.ranges.specs.declared.refusal.Reason.TheVariants.{OutOfRange, WrongSize, NoLightWeight, LightMomentNegative}
use Rattle.ranges.specs.declared.refusal.Refusal.{Refusal}
use Rattle.ranges.specs.Outside.{first_outside}
use Rattle.ranges.specs.Sizes.{shift_width}
use Rattle.ranges.proofs.Outcomes.{answer_known}
use Rattle.loading.specs.Items.{totals_of_items}
use Rattle.inclining.specs.Inclining.{Inclined, shifts_fit, items_fit, numbers_of, count, outside, inclined_of, MakesLightShip}
use Rattle.inclining.specs.Light.{lightened}
use Rattle.inclining.specs.Measured.{shifts_of, gm_measured, own_gms}
use Rattle.inclining.specs.Private.Heeling.{wrong_table}
use Rattle.inclining.specs.declared.LightShip.{LightShip}
use Rattle.inclining.specs.declared.Test.{Test}
use Rattle.inclining.proofs.Lightening.{aboard, added, deducted, no_weight, moment_below, found}
use Rattle.inclining.proofs.Sized.{Sized, wrong_shifts, wrong_off, wrong_on, short_room}
use Rattle.inclining.proofs.Trying.{Inside, test_outside, shift_outside, off_outside, on_outside, refused_size, refused_range, then_lightened}

module _ {test : Test} {shifts : List ℕ} {off on : List ℤ} {gms after : List ℕ} {answer : Result LightShip Refusal} (made : MakesLightShip test shifts off on gms after answer) where
  abbrev refused_with : Reason → ℕ → Result LightShip Refusal
  refused_with reason place = Err (record { reason = reason; place = place })

  refused_with_it : (reason : Reason) (place : ℕ) → refused (number_of reason) place ≡ inclined_of test shifts off on (length gms) → answer ≡ refused_with reason place
  unfolding answer_with
  refused_with_it reason place e = answer_known answer (refused_with reason place) (made.answer_is ∙ ap (answer_with (λ i. i.light)) (sym e))

  -- ---- 7
  size_refused : {table : ℕ} → table ≡ wrong_table (length shifts) (length off) (length on) (length gms) → table < 4 → answer ≡ refused_with WrongSize table
  size_refused {table} e some = refused_with_it WrongSize table (ap (refused 7) e ∙ refused_size test shifts off on (length gms) (omega (arith, e)))

  pub shifts_refused : shifts_fit (length shifts) ≡ false → answer ≡ refused_with WrongSize 0
  shifts_refused s = size_refused (wrong_shifts (length shifts) (length off) (length on) (length gms) s) (omega arith)

  module _ (s : shifts_fit (length shifts) ≡ true) where
    pub off_refused : items_fit (length off) ≡ false → answer ≡ refused_with WrongSize 1
    off_refused f = size_refused (wrong_off (length shifts) (length off) (length on) (length gms) s f) (omega arith)

    module _ (f : items_fit (length off) ≡ true) where
      pub on_refused : items_fit (length on) ≡ false → answer ≡ refused_with WrongSize 2
      on_refused n = size_refused (wrong_on (length shifts) (length off) (length on) (length gms) s f n) (omega arith)

      pub room_refused : items_fit (length on) ≡ true → length gms < length shifts / shift_width → answer ≡ refused_with WrongSize 3
      room_refused n r = size_refused (short_room (length shifts) (length off) (length on) (length gms) s f n r) (omega arith)

  -- ---- 4, by where the first number outside stands in each table
  module _ (sizes : Sized (length shifts) (length off) (length on) (length gms)) where
    number_refused : {place : ℕ} → place ≡ outside test shifts off on → place < count shifts off on → answer ≡ refused_with OutOfRange place
    number_refused {place} e h = refused_with_it OutOfRange place (refused_range test shifts off on (length gms) sizes e h)

    pub test_number : (i : ℕ) → i ≡ first_outside inclining (map pos (numbers_of test)) → i < 4 → answer ≡ refused_with OutOfRange i
    test_number i e h = number_refused (test_outside test shifts off on e h) (omega arith)

    module _ (tested : 4 ≤ first_outside inclining (map pos (numbers_of test))) where
      pub shift_number : (i : ℕ) → i ≡ first_outside shift (map pos shifts) → i < length shifts → answer ≡ refused_with OutOfRange (4 + i)
      shift_number i e h = number_refused (shift_outside test shifts off on refl tested e h) (omega arith)

      module _ (shifted : length shifts ≤ first_outside shift (map pos shifts)) where
        pub off_number : (i : ℕ) → i ≡ first_outside item off → i < length off → answer ≡ refused_with OutOfRange (4 + length shifts + i)
        off_number i e h = number_refused (off_outside test shifts off on refl tested refl shifted e h) (omega arith)

        pub on_number : length off ≤ first_outside item off → (i : ℕ) → i ≡ first_outside item on → i < length on → answer ≡ refused_with OutOfRange (4 + length shifts + length off + i)
        on_number off-listed i e h = number_refused (on_outside test shifts off on refl tested refl shifted refl off-listed e) (omega arith)

    -- ---- 20, 21 and the light ship
    module _ (so : Inside test shifts off on) where
      abbrev gm : ℕ
      gm = gm_measured test (shifts_of shifts)

      none_outside : count shifts off on ≤ outside test shifts off on
      none_outside = omega (arith, on_outside test shifts off on refl so.in_test refl so.in_table refl so.in_off refl, so.in_on)

      comes_to : {o : Outcome LightShip} → o ≡ lightened test (totals_of_items off) (totals_of_items on) gm → answer_with (λ ship. record { gms = own_gms test (shifts_of shifts); light = ship }) o ≡ inclined_of test shifts off on (length gms)
      comes_to e =
          ap (answer_with {B = Inclined} (λ ship. record { gms = own_gms test (shifts_of shifts); light = ship })) e
          ∙ then_lightened test shifts off on (length gms) sizes refl none_outside

      pub weight_refused : aboard test (totals_of_items on) ≤ (totals_of_items off).weight → answer ≡ refused_with NoLightWeight 0
      unfolding answer_with
      weight_refused h = refused_with_it NoLightWeight 0 (comes_to (no_weight test (totals_of_items off) (totals_of_items on) gm h))

      module _ (some : (totals_of_items off).weight < aboard test (totals_of_items on)) where
        pub moment_refused : added test (totals_of_items on) < deducted test (totals_of_items off) gm → answer ≡ refused_with LightMomentNegative 0
        unfolding answer_with
        moment_refused h = refused_with_it LightMomentNegative 0 (comes_to (moment_below test (totals_of_items off) (totals_of_items on) gm some h))

        pub else_found : deducted test (totals_of_items off) gm ≤ added test (totals_of_items on) → (ship : LightShip) × (answer ≡ Ok ship)
        unfolding answer_with
        else_found h =
            let weight = aboard test (totals_of_items on) - (totals_of_items off).weight in
            let moment = added test (totals_of_items on) - deducted test (totals_of_items off) gm in
            let ship : LightShip = record { measured_gm = gm; weight = weight; vertical_moment = moment; vcg = rounded_up moment weight } in
            let e = comes_to (found test (totals_of_items off) (totals_of_items on) gm some h refl refl refl) in
            (ship, answer_known answer (Ok ship) (made.answer_is ∙ ap (answer_with (λ i. i.light)) (sym e)))
