-- The light ship's weight and moment, which are of either sign, told in whole numbers.
--     none_left, some_left, size_is       a less b: nothing above 0 is left, or something, and how much
--     aboard, added, deducted             what stands on either side of the two differences
--     weight_is, moment_is                the weight and the moment are these
--     no_weight, moment_below, found      the three outcomes
-- Assumes nothing.
use mathlib.Core.Path.{◌≡◌, refl, sym, ap, ◌∙◌}
use mathlib.Core.Bool.{true, false}
use Prim.Native.Nat.{ℕ, suc, ◌+◌, ◌-◌, ◌*◌, ◌≤◌, ◌<◌}
use native.Mathlib.Omega.{arith}
use borrow.Author.Tests.{le-leb, lt-leb, ltb-true, ltb-false}
use lib.Dec.{ltb}
use lib.IntN.{pos, neg_ℤ, nat_abs, ◌-ℤ◌}
use lib.Signed.{le_z}
use Rattle.arithmetic.specs.Rounding.{rounded_up}
use Rattle.arithmetic.specs.Signed.{is_negative}
use Rattle.arithmetic.proofs.Choice.{chosen}
use Rattle.arithmetic.proofs.Crossing.{less_under, less_over}
use Rattle.arithmetic.proofs.Integer.{solve_ℤ}
use Rattle.arithmetic.proofs.Polynomial.{◌:+◌, ◌:*◌, :-◌}
use Rattle.arithmetic.proofs.Tests.{by_test}
use Rattle.ranges.specs.Outcome.{answered, refused}
use Rattle.ranges.specs.Refusals.{no_light_weight, light_moment_negative}
use Rattle.loading.specs.declared.Totals.{Totals}
use Rattle.inclining.specs.Light.{vertical_moment_of, light_weight, light_moment, lightened}
use Rattle.inclining.specs.declared.Test.{Test}

-- ---- a less b, against 0
module _ (a b : ℕ) where
  under_is : a < b → pos a -ℤ pos b ≡ neg_ℤ (pos (suc (b - suc a)))
  under_is h = let k : b - a ≡ suc (b - suc a) = omega arith in less_under a b h ∙ ap (λ k. neg_ℤ (pos k)) k

  pub none_left : a ≤ b → le_z (pos a -ℤ pos b) (pos 0) ≡ true
  none_left h =
      by_test (ltb a b) (λ t. ap (λ v. le_z v (pos 0)) (under_is (ltb-true a b t)))
      (λ t. ap (λ v. le_z v (pos 0)) (less_over a b (ltb-false a b t)) ∙ le-leb (a - b) 0 (omega arith))

  pub some_left : b < a → le_z (pos a -ℤ pos b) (pos 0) ≡ false
  some_left h = ap (λ v. le_z v (pos 0)) (less_over a b (omega arith)) ∙ lt-leb (a - b) 0 (omega arith)

  below : a < b → is_negative (pos a -ℤ pos b) ≡ true
  below h = ap is_negative (under_is h)

  not_below : b ≤ a → is_negative (pos a -ℤ pos b) ≡ false
  not_below h = ap is_negative (less_over a b h)

  pub size_is : b ≤ a → nat_abs (pos a -ℤ pos b) ≡ a - b
  size_is h = ap nat_abs (less_over a b h)

-- ---- the light ship
-- kg: the ship of the test with what is put on
abbrev pub aboard : Test → Totals → ℕ
aboard test on = test.weight + on.weight

-- kg·mm: what is added, with what is put on, and what is deducted, with what is taken off
abbrev pub added : Test → Totals → ℕ
added test on = test.weight * test.km + on.vertical

abbrev pub deducted : Test → Totals → ℕ → ℕ
deducted test off gm = test.weight * gm + test.free_surface + off.vertical

module _ (test : Test) (off on : Totals) where
  pub weight_is : light_weight test off on ≡ pos (aboard test on) -ℤ pos off.weight
  unfolding light_weight
  weight_is =
      solve_ℤ 3 (λ w o n. w :+ :- o :+ n) (λ w o n. w :+ n :+ :- o) refl (pos test.weight) (pos off.weight) (pos on.weight)

  module _ (gm : ℕ) where
    pub moment_is : light_moment test off on gm ≡ pos (added test on) -ℤ pos (deducted test off gm)
    unfolding light_moment vertical_moment_of
    moment_is =
        solve_ℤ 6 (λ w k g s o n. w :* (k :+ :- g) :+ :- s :+ :- o :+ n) (λ w k g s o n. w :* k :+ n :+ :- (w :* g :+ s :+ o)) refl
        (pos test.weight) (pos test.km) (pos gm) (pos test.free_surface) (pos off.vertical) (pos on.vertical)

    pub no_weight : aboard test on ≤ off.weight → refused no_light_weight 0 ≡ lightened test off on gm
    unfolding lightened
    no_weight h = sym (rw (weight_is, none_left (aboard test on) off.weight h) (simp chosen))

    module _ (some : off.weight < aboard test on) where
      pub moment_below : added test on < deducted test off gm → refused light_moment_negative 0 ≡ lightened test off on gm
      unfolding lightened
      moment_below h =
          sym (rw (weight_is, moment_is, some_left (aboard test on) off.weight some, below (added test on) (deducted test off gm) h) (simp chosen))

      pub found : deducted test off gm ≤ added test on → {weight moment vcg : ℕ} → weight ≡ aboard test on - off.weight → moment ≡ added test on - deducted test off gm → vcg ≡ rounded_up moment weight
          → answered (record { measured_gm = gm; weight = weight; vertical_moment = moment; vcg = vcg }) ≡ lightened test off on gm
      unfolding lightened
      found h w m k =
          rw (k, m, w)
          (sym (rw (weight_is, moment_is, some_left (aboard test on) off.weight some, not_below (added test on) (deducted test off gm) h, size_is (aboard test on) off.weight (omega arith), size_is (added test on) (deducted test off gm) h) (simp chosen)))
