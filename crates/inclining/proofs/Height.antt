-- The height of the light ship's centre of gravity, KG.
--     kg_up               it is the moment over the weight, rounded up
--     kg_not_below        it is never below the KG of the unrounded GM
--     MoreSurface, more_surface     with more free surface at the test there is the same GM and weight, never a greater moment, and never a greater KG
-- Assumes nothing.
use mathlib.Core.Path.{◌≡◌, refl, sym, ap, subst, ◌∙◌}
use Prim.Native.Nat.{ℕ, ◌+◌, ◌*◌, ◌≤◌}
use native.Mathlib.Nat.{add-zero, mul-le-mul_left}
use native.Mathlib.Omega.{arith}
use lib.IntN.{pos, ◌-ℤ◌}
use lib.Signed.{◌≤ℤ◌}
use Rattle.arithmetic.proofs.Integer.{solve_ℤ}
use Rattle.arithmetic.proofs.Polynomial.{◌:+◌, ◌:*◌, :-◌}
use Rattle.arithmetic.proofs.Ring.{ring}
use Rattle.arithmetic.proofs.Rounding.{RoundedUp, up_of, up_mono}
use Rattle.loading.specs.Fraction.{Fraction}
use Rattle.loading.specs.declared.Totals.{Totals}
use Rattle.arithmetic.proofs.Differences.{difference_le}
use Rattle.inclining.specs.Light.{with_surface, unrounded_moment}
use Rattle.inclining.specs.declared.LightShip.{LightShip}
use Rattle.inclining.specs.declared.Test.{Test}
use Rattle.inclining.proofs.Answered.{Lightened}
use Rattle.inclining.proofs.Lightening.{added, deducted}

module _ {test : Test} {off on : Totals} {gm : ℕ} {ship : LightShip} (so : Lightened test off on gm ship) where
  pub kg_up : RoundedUp ship.vertical_moment ship.weight ship.vcg
  kg_up = rw so.vcg_is (up_of ship.vertical_moment ship.weight (omega (arith, so.weight_is, so.some)))

  -- the unrounded moment as a difference
  unrounded_is : (f : Fraction) → (unrounded_moment test off on f).top ≡ pos (f.bottom * added test on) -ℤ pos (test.weight * f.top + f.bottom * (off.vertical + test.free_surface))
  unrounded_is f =
      solve_ℤ 7 (λ w k b a n o s. w :* (k :* b :+ :- a) :+ b :* (n :+ :- o :+ :- s)) (λ w k b a n o s. b :* (w :* k :+ n) :+ :- (w :* a :+ b :* (o :+ s))) refl
      (pos test.weight) (pos test.km) (pos f.bottom) (pos f.top) (pos on.vertical) (pos off.vertical) (pos test.free_surface)

  pub kg_not_below : (f : Fraction) → gm * f.bottom ≤ f.top → (unrounded_moment test off on f).top ≤ℤ pos (f.bottom * ship.weight * ship.vcg)
  kg_not_below f below =
      let b = f.bottom in
      let sum : added test on ≡ ship.vertical_moment + deducted test off gm = omega (arith, so.moment_is, so.not_below) in
      let scaled : b * added test on ≡ b * (ship.vertical_moment + deducted test off gm) = ap (λ n. b * n) sum in
      let up = mul-le-mul_left b kg_up.low in
      let down = mul-le-mul_left test.weight below in
      rw (unrounded_is f)
      (subst (λ n. (pos (b * added test on) -ℤ pos (test.weight * f.top + b * (off.vertical + test.free_surface))) ≤ℤ pos n) (add-zero (b * ship.weight * ship.vcg))
      (difference_le (b * added test on) (test.weight * f.top + b * (off.vertical + test.free_surface)) (b * ship.weight * ship.vcg) 0
      (rw scaled (simp ring (omega (arith, up, simp ring at down))))))

-- ---- a larger free surface
pub record MoreSurface (ship ship' : LightShip) : Type 0 where
  pub same_gm : ship'.measured_gm ≡ ship.measured_gm
  pub same_weight : ship'.weight ≡ ship.weight
  pub moment_not_greater : ship'.vertical_moment ≤ ship.vertical_moment
  pub kg_not_greater : ship'.vcg ≤ ship.vcg

pub more_surface : (test : Test) {surface surface' : ℕ} {off on : Totals} {gm : ℕ} {ship ship' : LightShip} → surface ≤ surface'
    → Lightened (with_surface test surface) off on gm ship → Lightened (with_surface test surface') off on gm ship' → MoreSurface ship ship'
more_surface test {ship} {ship'} more so so' =
    let same : ship'.weight ≡ ship.weight = so'.weight_is ∙ sym so.weight_is in
    let less : ship'.vertical_moment ≤ ship.vertical_moment = omega (arith, so.moment_is, so'.moment_is, so.not_below, so'.not_below) in
    record {
      same_gm = so'.gm_is ∙ sym so.gm_is;
      same_weight = same;
      moment_not_greater = less;
      kg_not_greater = up_mono (subst (λ w. RoundedUp ship'.vertical_moment w ship'.vcg) same (kg_up so')) (kg_up so) less;
    }
