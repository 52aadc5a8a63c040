-- A larger free surface on the test.
--     less_surface        what is answered with it is answered with a smaller one, and KG is not lower then
-- Assumes nothing.
use mathlib.Core.Path.{◌≡◌, refl, subst}
use mathlib.Core.Bool.{true}
use mathlib.Core.List.{List, map}
use Prim.Native.Nat.{ℕ, zero, suc, ◌%◌, ◌≤◌, ◌<◌}
use native.Mathlib.Omega.{arith}
use lib.IntN.{ℤ, pos}
use lib.ListN.{length, get_or}
use Rattle.ranges.specs.Fields.{◌to◌, within, most, inclining, test_surface}
use Rattle.ranges.specs.Outside.{first_outside}
use Rattle.ranges.proofs.Facts.{all_within, all_inside, within_whole, whole_within}
use Rattle.loading.specs.Items.{totals_of_items}
use Rattle.inclining.specs.Inclining.{numbers_of, MakesLightShip}
use Rattle.inclining.specs.Light.{with_surface}
use Rattle.inclining.specs.Measured.{shifts_of, unrounded_gm, gm_measured}
use Rattle.std.specs.Prelude.{Result, Ok}
use Rattle.ranges.specs.declared.refusal.Refusal.{Refusal}
use Rattle.inclining.specs.declared.LightShip.{LightShip}
use Rattle.inclining.specs.declared.Test.{Test}
use Rattle.inclining.proofs.Answered.{Lightened, found_told}
use Rattle.inclining.proofs.Height.{MoreSurface, more_surface}
use Rattle.inclining.proofs.Order.{else_found}
use Rattle.inclining.proofs.Sized.{Sized}
use Rattle.inclining.proofs.Trying.{Inside}

module _ (test : Test) {surface surface' : ℕ} (less : surface ≤ surface') (shifts : List ℕ) where
  abbrev smaller : Test
  smaller = with_surface test surface

  abbrev larger : Test
  larger = with_surface test surface'

  -- the test's own numbers are in range with the smaller one
  in_test : length inclining ≤ first_outside inclining (map pos (numbers_of larger)) → length inclining ≤ first_outside inclining (map pos (numbers_of smaller))
  in_test so = omega (arith, all_inside inclining (map pos (numbers_of smaller)) each)
    where
      at : (i : ℕ) → i < 4 → within (get_or inclining (i % 4) (1 to 0)) (get_or (map pos (numbers_of larger)) i (pos 0)) ≡ true
      at = all_within inclining (map pos (numbers_of larger)) so

      each : (i : ℕ) → i < 4 → within (get_or inclining (i % 4) (1 to 0)) (get_or (map pos (numbers_of smaller)) i (pos 0)) ≡ true
      each zero h = at 0 (omega arith)
      each (suc zero) h = at 1 (omega arith)
      each (suc (suc zero)) h = whole_within 0 (most test_surface) surface (omega arith, omega (arith, (within_whole test_surface surface' (at 2 (omega arith))).1))
      each (suc (suc (suc zero))) h = at 3 (omega arith)
      each (suc (suc (suc (suc i)))) h = absurd (omega arith)

  same_gm : gm_measured larger (shifts_of shifts) ≡ gm_measured smaller (shifts_of shifts)
  unfolding gm_measured unrounded_gm
  same_gm = refl

  module _ (off on : List ℤ) {gms after gms' after' : List ℕ} {answer : Result LightShip Refusal} {ship' : LightShip}
      (found : MakesLightShip larger shifts off on gms' after' (Ok ship')) (made : MakesLightShip smaller shifts off on gms after answer) (room : length gms ≡ length gms') where
    pub less_surface : (ship : LightShip) × (answer ≡ Ok ship) × MoreSurface ship ship'
    less_surface =
        let told = (found_told larger shifts off on found).0 in
        let light : Lightened larger (totals_of_items off) (totals_of_items on) (gm_measured smaller (shifts_of shifts)) ship' = rw same_gm at told.light in
        let sizes : Sized (length shifts) (length off) (length on) (length gms) = rw (← room) at told.sizes in
        let inside : Inside smaller shifts off on =
        record { in_test = in_test told.is_in_range.in_test; in_table = told.is_in_range.in_table; in_off = told.is_in_range.in_off; in_on = told.is_in_range.in_on } in
        let answered = else_found made sizes inside light.some (omega (arith, light.not_below)) in
        let again : MakesLightShip smaller shifts off on gms after (Ok answered.0) = subst (MakesLightShip smaller shifts off on gms after) answered.1 made in
        (answered.0, answered.1, more_surface test less (found_told smaller shifts off on again).0.light light)
