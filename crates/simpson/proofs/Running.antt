-- The running sum over a list of ordinates, station by station, and what is answered.
--     Running                            what it is after the first i stations
--     running_none, running_step         before the first station; one station on, where 64 bits hold the sum with its term
--     too_short, too_large, summed       the three answers
-- Assumes nothing.
use mathlib.Core.Path.{◌≡◌, refl, sym}
use mathlib.Core.List.{List}
use Prim.Native.Nat.{ℕ, ◌+◌, ◌-◌, ◌*◌, ◌^◌, ◌≤◌, ◌<◌}
use native.Mathlib.Nat.{le_trans}
use native.Mathlib.Omega.{arith}
use borrow.Author.Tests.{lt-ltb, le-ltb}
use lib.ListN.{length, get_or}
use Rattle.std.specs.Prelude.{Ok, Err}
use Rattle.arithmetic.proofs.Choice.{chosen}
use Rattle.simpson.specs.Multipliers.{multiplier}
use Rattle.simpson.specs.Curve.{curve_sum_of}
use Rattle.simpson.specs.declared.CurveError.TheVariants.{TooShort, TooLarge}
use Rattle.simpson.proofs.Sweep.{Swept, swept_none, swept_more, swept_le, swept_all}

pub record Running (ordinates : List ℕ) (i sum : ℕ) : Type 0 where
  pub enough : 3 ≤ length ordinates
  pub fits : sum < 2 ^ 64
  pub so_far : Swept (length ordinates - 1) (λ i. get_or ordinates i 0) i sum

pub running_none : (ordinates : List ℕ) → 3 ≤ length ordinates → Running ordinates 0 0
running_none ordinates h = record { enough = h; fits = omega arith; so_far = swept_none }

pub too_short : (ordinates : List ℕ) → length ordinates < 3 → Err TooShort ≡ curve_sum_of ordinates
unfolding curve_sum_of
too_short ordinates h = simp (lt-ltb (length ordinates) 3 h, chosen)

module _ {ordinates : List ℕ} {i sum : ℕ} (r : Running ordinates i sum) where
  pub summed : length ordinates ≤ i → Ok sum ≡ curve_sum_of ordinates
  unfolding curve_sum_of
  summed done =
      simp (le-ltb (length ordinates) 3 r.enough, sym (swept_all r.so_far (omega arith)), lt-ltb sum (2 ^ 64) r.fits, chosen)

  -- at station i, whose multiplier is u
  module _ {u : ℕ} (here : i < length ordinates) (e : u ≡ multiplier (length ordinates - 1) i) where
    next : Swept (length ordinates - 1) (λ i. get_or ordinates i 0) (i + 1) (sum + u * get_or ordinates i 0)
    next = swept_more r.so_far (omega arith) e refl

    pub running_step : sum + u * get_or ordinates i 0 < 2 ^ 64 → Running ordinates (i + 1) (sum + u * get_or ordinates i 0)
    running_step room = record { enough = r.enough; fits = room; so_far = next }

    pub too_large : 2 ^ 64 ≤ sum + u * get_or ordinates i 0 → Err TooLarge ≡ curve_sum_of ordinates
    unfolding curve_sum_of
    too_large none =
        simp (le-ltb (length ordinates) 3 r.enough, le-ltb _ (2 ^ 64) (le_trans none (swept_le next)), chosen)
