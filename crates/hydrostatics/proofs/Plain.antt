-- The sum over a curve as it is worked by hand, from its front.
--     first_rule_from, second_rule_from      two intervals and three, as the code multiplies them
--     front_off                              two intervals off the front: the first rule on them, and the rest
--     all_covered, front_covered, rest_summable       of a curve that can be summed: so can its front and the rest
--     moment_is, lever_fits                  each ordinate times its place, and that it fits
--     filled_curve, filled_moment            the sums through ordinates that were filled in
--     filled_summable, filled_balanced       and that they can be summed
-- Assumes nothing.
use mathlib.Core.Path.{◌≡◌, refl, sym, ap, subst, ◌∙◌}
use mathlib.Core.List.{List}
use mathlib.Core.Logic.{⊎_elim}
use Prim.Native.Nat.{ℕ, ◌+◌, ◌-◌, ◌*◌, ◌^◌, ◌≤◌, ◌<◌}
use native.Mathlib.Nat.{eq-or-lt_of_le}
use native.Mathlib.Omega.{arith}
use lib.ListN.{length, get_or, take, drop, length-drop}
use lib.Seq.{length-take-le, get_or-drop, get_or-take}
use Rattle.ranges.specs.Fields.{range_of, most}
use Rattle.simpson.specs.Curve.{curve}
use Rattle.simpson.proofs.Curves.{curve_same}
use Rattle.simpson.proofs.Front.{curve_two, curve_three, curve_off}
use Rattle.simpson.proofs.Moments.{ordinate_le}
use Rattle.hydrostatics.specs.Private.Hull.{Filled}
use Rattle.hydrostatics.specs.Private.Sections.{curve_from, curve_of, moment_of, Covers, Summable, Balanced}

-- ---- the two rules, and two intervals off the front
pub first_rule_from : (o : List ℕ) → curve_from 2 o ≡ 8 * get_or o 0 0 + 32 * get_or o 1 0 + 8 * get_or o 2 0
unfolding curve_from
first_rule_from o = curve_two (λ i. get_or o i 0)

pub second_rule_from : (o : List ℕ) → curve_from 3 o ≡ 9 * get_or o 0 0 + 27 * get_or o 1 0 + 27 * get_or o 2 0 + 9 * get_or o 3 0
unfolding curve_from
second_rule_from o = curve_three (λ i. get_or o i 0)

pub front_off : (o : List ℕ) → 5 ≤ length o → curve_of o ≡ curve_from 2 o + curve_of (drop 2 o)
unfolding curve_from
front_off o h =
    let y : ℕ → ℕ = λ i. get_or o i 0 in
    let left : length o - 1 - 2 ≡ length (drop 2 o) - 1 = omega (arith, length-drop 2 o) in
    let onward : (i : ℕ) → i + 2 ≡ 2 + i = λ i. omega arith in
    curve_off (length o - 1) y (omega arith)
    ∙ ap (λ n. curve 2 y + curve n (λ i. y (i + 2))) left
    ∙ ap (λ s. curve 2 y + s) (curve_same (length (drop 2 o) - 1) _ _ (λ i l. ap y (onward i) ∙ sym (get_or-drop 2 o i 0)))

-- ---- of a curve that can be summed
module _ {o : List ℕ} (can : Summable o) where
  -- just so many intervals
  pub all_covered : {n : ℕ} → length o - 1 ≡ n → Covers n o
  all_covered {n} e = record { enough = omega (arith, can.enough); fits = subst (λ k. curve_from k o < 2 ^ 64) e can.fits }

  -- two of just two, or of more than three
  pub front_covered : (length o - 1 ≡ 3 → ⊥) → Covers 2 o
  front_covered other =
      ⊎_elim (λ (e : 2 ≡ length o - 1). all_covered (sym e))
      (λ (l : 2 < length o - 1). record { enough = omega (arith, can.enough); fits = omega (arith, can.fits, front_off o (omega arith)) })
      (eq-or-lt_of_le (omega (arith, can.enough)))

  pub rest_summable : 5 ≤ length o → Summable (drop 2 o)
  rest_summable more = record { enough = omega (arith, length-drop 2 o); fits = omega (arith, can.fits, front_off o more) }

-- ---- each ordinate times its place
pub moment_is : (o : List ℕ) → moment_of o ≡ curve (length o - 1) (λ i. get_or o i 0 * i)
unfolding moment_of
moment_is o = refl

pub lever_fits : {o : List ℕ} → Balanced o → (i : ℕ) → i < length o → get_or o i 0 * i < 2 ^ 64
lever_fits {o} can i l =
    omega (arith, can.fits, moment_is o, ordinate_le (length o - 1) (λ i. get_or o i 0 * i) i (omega (arith, can.enough)) (omega arith))

-- ---- ordinates that were filled in, or stand in a table
module _ {f : ℕ → ℕ} {count : ℕ} {l : List ℕ} (filled : Filled 0 f count l) (h : 1 ≤ count) (k : count ≤ length l) where
  -- the curve through g of each ordinate and its place
  through : (g : ℕ → ℕ → ℕ) → curve (length (take count l) - 1) (λ i. g (get_or (take count l) i 0) i) ≡ curve (count - 1) (λ i. g (f i) i)
  through g =
      ap (λ n. curve (n - 1) (λ i. g (get_or (take count l) i 0) i)) (length-take-le count l k)
      ∙ curve_same (count - 1) _ _ (λ i b. ap (λ y. g y i) (get_or-take count l i 0 (omega arith) ∙ filled.at i (omega arith)))

  pub filled_curve : curve_of (take count l) ≡ curve (count - 1) f
  unfolding curve_from
  filled_curve = through (λ y i. y)

  pub filled_moment : moment_of (take count l) ≡ curve (count - 1) (λ i. f i * i)
  unfolding moment_of
  filled_moment = through (λ y i. y * i)

  module _ (enough : 3 ≤ count) where
    pub filled_summable : curve (count - 1) f < 2 ^ 64 → Summable (take count l)
    filled_summable fits = record { enough = omega (arith, length-take-le count l k); fits = omega (arith, filled_curve) }

    pub filled_balanced : count ≤ most (range_of 0) + 1 → curve (count - 1) (λ i. f i * i) < 2 ^ 64 → Balanced (take count l)
    filled_balanced room fits = record {
      enough = omega (arith, length-take-le count l k);
      most_stations = omega (arith, length-take-le count l k);
      fits = omega (arith, filled_moment);
    }
