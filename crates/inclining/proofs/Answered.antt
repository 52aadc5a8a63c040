-- What an answered call tells.
--     Told, found_told        the tests were passed, and the light ship is the definition's, in whole numbers
--     written                 what the table of GMs holds
-- Assumes nothing.
use mathlib.Core.Path.{◌≡◌, sym, ap, ◌∙◌}
use mathlib.Core.Bool.{false}
use mathlib.Core.List.{List}
use Prim.Native.Nat.{ℕ, ◌-◌, ◌/◌, ◌≤◌, ◌<◌}
use native.Mathlib.Omega.{arith}
use borrow.Author.Tests.{not-false, ltb-true, ltb-false}
use lib.Dec.{ltb}
use lib.IntN.{ℤ, pos, nat_abs}
use lib.ListN.{length}
use lib.Signed.{le_z}
use Rattle.std.specs.Prelude.{Ok}
use Rattle.arithmetic.specs.Rounding.{rounded_up}
use Rattle.arithmetic.specs.Signed.{is_negative}
use Rattle.arithmetic.proofs.Crossing.{less_whole}
use Rattle.arithmetic.proofs.Tests.{by_test, never}
use Rattle.ranges.specs.Outcome.{Outcome, answered, left_with}
use Rattle.ranges.specs.Refusals.{out_of_range, wrong_size, no_light_weight, light_moment_negative}
use Rattle.ranges.specs.Sizes.{shift_width}
use Rattle.ranges.proofs.Outcomes.{answer_same, not_refused, with_answered}
use Rattle.loading.specs.Items.{totals_of_items}
use Rattle.loading.specs.declared.Totals.{Totals}
use Rattle.inclining.specs.Inclining.{shift_table, off_table, on_table, gm_table, Inclined, count, outside, inclined_of, table_after, MakesLightShip}
use Rattle.inclining.specs.Light.{light_weight, light_moment, light_ship, lightened}
use Rattle.inclining.specs.Measured.{shifts_of, gm_measured, own_gms}
use Rattle.inclining.specs.Private.Heeling.{laid_over}
use Rattle.inclining.specs.declared.LightShip.{LightShip}
use Rattle.inclining.specs.declared.Test.{Test}
use Rattle.inclining.proofs.Lightening.{none_left, size_is, aboard, added, deducted, weight_is, moment_is}
use Rattle.inclining.proofs.Sized.{Sized}
use Rattle.inclining.proofs.Trying.{Inside, inside}

-- ---- the light ship
pub record Lightened (test : Test) (off on : Totals) (gm : ℕ) (ship : LightShip) : Type 0 where
  pub gm_is : ship.measured_gm ≡ gm
  pub some : off.weight < aboard test on
  pub not_below : deducted test off gm ≤ added test on
  pub weight_is : ship.weight ≡ aboard test on - off.weight
  pub moment_is : ship.vertical_moment ≡ added test on - deducted test off gm
  pub vcg_is : ship.vcg ≡ rounded_up ship.vertical_moment ship.weight

module _ (test : Test) (off on : Totals) (gm : ℕ) where
  some_told : le_z (light_weight test off on) (pos 0) ≡ false → off.weight < aboard test on
  some_told e =
      by_test (ltb off.weight (aboard test on)) (λ t. ltb-true off.weight (aboard test on) t)
      (λ t. never (sym e ∙ ap (λ v. le_z v (pos 0)) (weight_is test off on) ∙ none_left (aboard test on) off.weight (ltb-false off.weight (aboard test on) t)))

  not_below_told : is_negative (light_moment test off on gm) ≡ false → deducted test off gm ≤ added test on
  not_below_told e = less_whole (added test on) (deducted test off gm) (sym (ap is_negative (moment_is test off on gm)) ∙ e)

  pub lightened_told : {ship : LightShip} → lightened test off on gm ≡ answered ship → Lightened test off on gm ship
  unfolding lightened
  lightened_told {ship} e =
      let first = not_refused no_light_weight 0 e in
      let second = not_refused light_moment_negative 0 first.1 in
      let same : light_ship test off on gm ≡ ship = answer_same second.1 in
      let some = some_told first.0 in
      let not_below = not_below_told second.0 in
      record {
        gm_is = sym (ap (λ (s : LightShip). s.measured_gm) same);
        some = some;
        not_below = not_below;
        weight_is = sym (ap (λ (s : LightShip). s.weight) same) ∙ ap nat_abs (weight_is test off on) ∙ size_is (aboard test on) off.weight (omega (arith, some));
        moment_is = sym (ap (λ (s : LightShip). s.vertical_moment) same) ∙ ap nat_abs (moment_is test off on gm) ∙ size_is (added test on) (deducted test off gm) not_below;
        vcg_is = rw (← same);
      }

-- ---- the call
left_found : (o : Outcome Inclined) (was : List ℕ) {i : Inclined} → o ≡ answered i → table_after o was ≡ laid_over i.gms was
unfolding left_with
left_found o was e = ap (λ o. table_after o was) e

module _ (test : Test) (shifts : List ℕ) (off on : List ℤ) where
  pub record Told (room : ℕ) (ship : LightShip) : Type 0 where
    pub sizes : Sized (length shifts) (length off) (length on) room
    pub is_in_range : Inside test shifts off on
    pub light : Lightened test (totals_of_items off) (totals_of_items on) (gm_measured test (shifts_of shifts)) ship

  pub found_told : {gms after : List ℕ} {ship : LightShip} → MakesLightShip test shifts off on gms after (Ok ship) → Told (length gms) ship × (after ≡ laid_over (own_gms test (shifts_of shifts)) gms)
  unfolding inclined_of
  found_told {gms} {ship} made =
      let whole = with_answered (λ i. i.light) (inclined_of test shifts off on (length gms)) (sym made.answer_is) in
      let s = not_refused wrong_size shift_table whole.1 in
      let f = not_refused wrong_size off_table s.1 in
      let n = not_refused wrong_size on_table f.1 in
      let r = not_refused wrong_size gm_table n.1 in
      let p = not_refused out_of_range (outside test shifts off on) r.1 in
      let lit = with_answered (λ ship. record { gms = own_gms test (shifts_of shifts); light = ship }) (lightened test (totals_of_items off) (totals_of_items on) (gm_measured test (shifts_of shifts))) p.1 in
      let told = lightened_told test (totals_of_items off) (totals_of_items on) (gm_measured test (shifts_of shifts)) lit.1 in
      let same : ship ≡ lit.0 = whole.2 ∙ ap (λ i. i.light) lit.2 in (
        record {
          sizes = record { shifts_are_fit = not-false _ s.0; off_fits = not-false _ f.0; on_fits = not-false _ n.0; room_enough = ltb-false (length gms) (length shifts / shift_width) r.0 };
          is_in_range = inside test shifts off on (ltb-false (outside test shifts off on) (count shifts off on) p.0);
          light = rw same told;
        },
        made.left ∙ left_found (inclined_of test shifts off on (length gms)) gms whole.1 ∙ ap (λ i. laid_over i.gms gms) lit.2,
      )
