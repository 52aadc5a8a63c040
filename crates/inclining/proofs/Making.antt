-- What is promised of an answer and of the table of GMs, by what the call comes to.
--     righting_most            W times the GM measured is small
--     light_at                 the light ship by what was added up
--     Tried, tried             what was tried before GM is measured
--     kept                     a refusal before that: nothing is written
--     declined, made           20 or 21; and the light ship, with each shift's GM in the table
-- Assumes nothing.
use mathlib.Core.Path.{◌≡◌, refl, ap, ◌∙◌}
use mathlib.Core.List.{List}
use Prim.Native.Nat.{ℕ, ◌*◌, ◌≤◌, ◌<◌}
use native.Mathlib.Nat.{mul-le-mul, mul-le-mul_left}
use native.Mathlib.Omega.{arith}
use lib.IntN.{ℤ}
use lib.ListN.{length}
use Rattle.arithmetic.proofs.Ring.{ring}
use Rattle.arithmetic.proofs.Rounding.{down_of}
use Rattle.ranges.specs.Outcome.{refused, answer_with, left_with}
use Rattle.std.specs.Prelude.{Ok, Err}
use Rattle.ranges.specs.Reasons.{number_of, paper}
use Rattle.ranges.specs.declared.refusal.Refusal.{Refusal}
use Rattle.loading.specs.Items.{totals_of_items}
use Rattle.loading.specs.declared.Totals.{Totals}
use Rattle.inclining.specs.Inclining.{count, outside, inclined, inclined_of, MakesLightShip}
use Rattle.inclining.specs.Light.{lightened}
use Rattle.inclining.specs.Measured.{shifts_of, unrounded_gm, gm_measured, own_gms}
use Rattle.inclining.specs.Private.Heeling.{table_count, wrong_table, heeling_by, gm_by, laid_over, most_righting, TestInRange, ShiftsInRange, HeelingInRange, ListFits}
use Rattle.inclining.specs.declared.Heeling.{Heeling}
use Rattle.inclining.specs.declared.LightShip.{LightShip}
use Rattle.inclining.specs.declared.Test.{Test}
use Rattle.inclining.proofs.Sized.{Sized, sized}
use Rattle.inclining.proofs.Trying.{inside, test_in_range, shifts_in_range, off_fits, on_fits, then_lightened}

-- by the length over the deflection, and the deflection is not 0
pub righting_most : {test : Test} {h : Heeling} → TestInRange test → HeelingInRange h → test.weight * gm_by test h ≤ most_righting
righting_most {test} {h} so heel =
    let W = test.weight in
    let D = h.deflection in
    let some : 0 < W * D = omega (arith, mul-le-mul so.weight_least heel.deflection_least) in
    let below = (down_of (h.moment * test.pendulum) (W * D) some).low in
    let once = mul-le-mul_left (W * gm_by test h) heel.deflection_least in
    let most = mul-le-mul heel.moment_most so.pendulum_most in
    simp ring (omega (arith, simp ring at below, simp ring at once, simp ring at most))

-- what was added up is the totals of the lists, and GM as measured
pub light_at : (test : Test) (shifts : List ℕ) (off on : List ℤ) {a b : Totals} {gm : ℕ} → a ≡ totals_of_items off → b ≡ totals_of_items on → gm ≡ gm_by test (heeling_by (shifts_of shifts)) → lightened test a b gm ≡ lightened test (totals_of_items off) (totals_of_items on) (gm_measured test (shifts_of shifts))
unfolding gm_measured unrounded_gm
light_at test shifts off on o n g = λ i. lightened test (o i) (n i) (g i)

module _ (test : Test) (shifts : List ℕ) (off on : List ℤ) (gms : List ℕ) where
  -- ---- what was tried
  pub record Tried : Type 0 where
    pub test_fits : TestInRange test
    pub shifts_are_fit : ShiftsInRange shifts
    pub off_fit : ListFits off
    pub on_fit : ListFits on
    pub sizes : Sized (length shifts) (length off) (length on) (length gms)
    pub so_far : inclined test shifts off on ≡ inclined_of test shifts off on (length gms)

  pub tried : table_count ≤ wrong_table (length shifts) (length off) (length on) (length gms) → count shifts off on ≤ outside test shifts off on → Tried
  tried all none =
      let size = sized (length shifts) (length off) (length on) (length gms) all in
      let so = inside test shifts off on none in
      record {
        test_fits = test_in_range test shifts off on so;
        shifts_are_fit = shifts_in_range test shifts off on (length gms) size so;
        off_fit = off_fits test shifts off on (length gms) size so;
        on_fit = on_fits test shifts off on (length gms) size so;
        sizes = size;
        so_far = then_lightened test shifts off on (length gms) size refl none;
      }

  -- ---- what is promised
  pub kept : {r s : Refusal} → r ≡ s → refused (number_of s.reason) s.place ≡ inclined_of test shifts off on (length gms) → MakesLightShip test shifts off on gms gms (Err r)
  unfolding answer_with left_with
  kept a e = record { answer_is = ap (λ r. paper (Err r)) a ∙ ap (answer_with (λ i. i.light)) e; left = ap (λ o. left_with (λ i. i.gms) o gms) e }

  module _ (so : Tried) where
    pub declined : {r : Refusal} → paper (Err r) ≡ lightened test (totals_of_items off) (totals_of_items on) (gm_measured test (shifts_of shifts)) → MakesLightShip test shifts off on gms gms (Err r)
    unfolding answer_with
    declined e = kept refl (ap (answer_with (λ ship. record { gms = own_gms test (shifts_of shifts); light = ship })) e ∙ so.so_far)

    pub made : {ship : LightShip} {after : List ℕ} → paper (Ok ship) ≡ lightened test (totals_of_items off) (totals_of_items on) (gm_measured test (shifts_of shifts)) → after ≡ laid_over (own_gms test (shifts_of shifts)) gms → MakesLightShip test shifts off on gms after (Ok ship)
    unfolding answer_with left_with
    made e a =
        let o = ap (answer_with (λ ship. record { gms = own_gms test (shifts_of shifts); light = ship })) e ∙ so.so_far in
        record { answer_is = ap (answer_with (λ i. i.light)) o; left = a ∙ ap (λ o. left_with (λ i. i.gms) o gms) o }
