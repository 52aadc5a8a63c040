-- The sums of a row as curves, by stations and by waterlines.
--     Q_is, X_is, C_is                     the sums over a waterline are curves over its stations
--     Sx_over                              Sx over stations and waterlines, each half-breadth times its station number
--     S_along, Sz_along, Sx_along          the sums of a row are curves over its stations, through their areas and height moments
--     S_is, Sz_is, Sx_is                   and curves over its waterlines, through Q, Q·j and X
-- Assumes nothing.
use mathlib.Core.Path.{◌≡◌, refl, sym, ap, ◌∙◌}
use mathlib.Core.List.{List}
use Prim.Native.Nat.{ℕ, ◌+◌, ◌*◌, ◌^◌}
use native.Mathlib.Nat.{mul_assoc, mul_comm}
use Rattle.arithmetic.specs.Sum.{sum_to}
use Rattle.arithmetic.proofs.Algebra.{natural}
use Rattle.arithmetic.proofs.Sums.{sum_same, times_sum}
use Rattle.ranges.specs.declared.Particulars.{Particulars}
use Rattle.simpson.specs.Multipliers.{multiplier}
use Rattle.simpson.specs.Curve.{curve}
use Rattle.simpson.proofs.Curves.{curve_same, curve_times, curve_swap}
use Rattle.hydrostatics.specs.Hull.{half_breadth, term, S, Sz, Sx, Q, C}
use Rattle.hydrostatics.specs.Private.Sections.{area_at, moment_at}
use Rattle.hydrostatics.specs.Private.Waterplanes.{X}

-- a double sum with both multipliers, station by station
by_stations : (n k : ℕ) (g : ℕ → ℕ → ℕ) → sum_to (n + 1) (λ i. sum_to (k + 1) (λ j. multiplier n i * multiplier k j * g i j)) ≡ curve n (λ i. curve k (λ j. g i j))
unfolding curve
by_stations n k g =
    sum_same natural (n + 1) _ (λ i. multiplier n i * sum_to (k + 1) (λ j. multiplier k j * g i j))
    (λ i l. sum_same natural (k + 1) _ _ (λ j l. mul_assoc (multiplier n i) (multiplier k j) (g i j)) ∙ times_sum natural (k + 1) (multiplier n i) (λ j. multiplier k j * g i j))

-- a factor of each ordinate that does not depend on it
curve_by : (n : ℕ) (y : ℕ → ℕ) (a : ℕ) → curve n (λ i. y i * a) ≡ curve n y * a
curve_by n y a = curve_same n _ (λ i. a * y i) (λ i l. mul_comm (y i) a) ∙ curve_times n a y ∙ mul_comm a (curve n y)

module _ (table : List ℕ) (p : Particulars) where
  pub Q_is : (j : ℕ) → Q table p j ≡ curve p.n (λ i. half_breadth table p i j)
  unfolding Q curve
  Q_is j = refl

  pub X_is : (j : ℕ) → X table p j ≡ curve p.n (λ i. half_breadth table p i j * i)
  unfolding X
  X_is j = refl

  pub C_is : (j : ℕ) → C table p j ≡ curve p.n (λ i. half_breadth table p i j ^ 3)
  unfolding C curve
  C_is j = refl

  module _ (k : ℕ) where
    -- each term times f of its station and waterline
    timed : (f : ℕ → ℕ → ℕ) → sum_to (p.n + 1) (λ i. sum_to (k + 1) (λ j. term table p k i j * f i j)) ≡ curve p.n (λ i. curve k (λ j. half_breadth table p i j * f i j))
    unfolding term
    timed f =
        sum_same natural (p.n + 1) _ _ (λ i l. sum_same natural (k + 1) _ _ (λ j l. mul_assoc (multiplier p.n i * multiplier k j) (half_breadth table p i j) (f i j)))
        ∙ by_stations p.n k (λ i j. half_breadth table p i j * f i j)

    pub Sx_over : Sx table p k ≡ curve p.n (λ i. curve k (λ j. half_breadth table p i j * i))
    unfolding Sx
    Sx_over = timed (λ i j. i)

    -- ---- along the stations
    pub S_along : S table p k ≡ curve p.n (area_at table p k)
    unfolding S term area_at
    S_along = by_stations p.n k (half_breadth table p)

    pub Sz_along : Sz table p k ≡ curve p.n (moment_at table p k)
    unfolding Sz moment_at
    Sz_along = timed (λ i j. j)

    pub Sx_along : Sx table p k ≡ curve p.n (λ i. area_at table p k i * i)
    unfolding area_at
    Sx_along = Sx_over ∙ curve_same p.n _ _ (λ i l. curve_by k (λ j. half_breadth table p i j) i)

    -- ---- up the waterlines
    pub S_is : S table p k ≡ curve k (Q table p)
    unfolding area_at
    S_is = S_along ∙ curve_swap p.n k (half_breadth table p) ∙ curve_same k _ _ (λ j l. sym (Q_is j))

    pub Sz_is : Sz table p k ≡ curve k (λ j. Q table p j * j)
    unfolding moment_at
    Sz_is =
        Sz_along
        ∙ curve_swap p.n k (λ i j. half_breadth table p i j * j)
        ∙ curve_same k _ _ (λ j l. curve_by p.n (λ i. half_breadth table p i j) j ∙ ap (λ q. q * j) (sym (Q_is j)))

    pub Sx_is : Sx table p k ≡ curve k (X table p)
    unfolding X
    Sx_is = Sx_over ∙ curve_swap p.n k (λ i j. half_breadth table p i j * i)
