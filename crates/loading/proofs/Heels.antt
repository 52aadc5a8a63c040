-- The heel, by the tests that tell it.
--     unstable, upright, heeled, beyond          the four outcomes
-- Assumes nothing.
use mathlib.Core.Path.{◌≡◌, refl, sym, ap, ◌∙◌}
use mathlib.Core.Bool.{true, false}
use Prim.Native.Nat.{ℕ, ◌*◌, ◌≤◌, ◌<◌}
use native.Mathlib.Nat.{mul_assoc}
use native.Mathlib.Omega.{arith}
use borrow.Author.Tests.{eq-eqb, ne_eqb, le-leb, lt-leb}
use lib.Dec.{leb}
use lib.IntN.{ℤ, pos, negsuc, nat_abs}
use lib.Signed.{le_z}
use Rattle.arithmetic.proofs.Choice.{chosen}
use Rattle.loading.specs.Stability.{heel_limit, ten_thousandths, tangent, heel_of}
use Rattle.loading.specs.Private.Steady.{above_zero}
use Rattle.loading.specs.declared.Heel.TheVariants.{Unstable, Upright, Heeled, Beyond}

-- ---- what lies above 0
none_above : (v : ℤ) → above_zero v ≡ 0 → le_z v (pos 0) ≡ true
none_above (pos n) e = le-leb n 0 (omega arith)
none_above (negsuc n) e = refl

some_above : (v : ℤ) → (above_zero v ≡ 0 → ⊥) → v ≡ pos (above_zero v)
some_above (pos n) e = refl
some_above (negsuc n) e = absurd (e refl)

-- ---- the heel, where g is what lies above 0 of GM, and m the size of the transverse moment
module _ (W g m : ℕ) (gm my : ℤ) (p : g ≡ above_zero gm) where
  pub unstable : g ≡ 0 → Unstable ≡ heel_of W gm my
  unfolding heel_of
  unstable a = simp (none_above gm (sym p ∙ a), chosen)

  module _ (a : g ≡ 0 → ⊥) (q : m ≡ nat_abs my) where
    gm_is : gm ≡ pos g
    gm_is = some_above gm (λ e. a (p ∙ e)) ∙ ap pos (sym p)

    stable : leb g 0 ≡ false
    stable = lt-leb g 0 (omega arith)

    pub upright : m ≡ 0 → Upright ≡ heel_of W gm my
    unfolding heel_of
    upright b = rw (gm_is, ← q, eq-eqb m 0 b, stable) (simp chosen)

    module _ (b : m ≡ 0 → ⊥) where
      pub heeled : ten_thousandths * m ≤ heel_limit * (W * g) → Heeled (tangent W (pos g) my) ≡ heel_of W gm my
      unfolding heel_of
      heeled h = rw (gm_is, ← q, ne_eqb m 0 b, stable, mul_assoc heel_limit W g, le-leb _ _ h) (simp chosen)

      pub beyond : heel_limit * (W * g) < ten_thousandths * m → Beyond ≡ heel_of W gm my
      unfolding heel_of
      beyond h = rw (gm_is, ← q, ne_eqb m 0 b, stable, mul_assoc heel_limit W g, lt-leb _ _ h) (simp chosen)
