-- The three roundings of GM, over plain numbers: GM is never above the unrounded GM, and less than 3 mm below it.
--     less_than_three
-- Assumes nothing.
use mathlib.Core.Path.{sym, ap, subst, ◌∙◌}
use Prim.Native.Nat.{ℕ, ◌+◌, ◌*◌, ◌≤◌, ◌<◌}
use native.Mathlib.Nat.{mul-le-mul_left, mul-lt-mul_of_pos_left, mul-pos}
use native.Mathlib.Omega.{arith}
use lib.IntN.{pos, ◌-ℤ◌, ◌*ℤ◌}
use lib.Signed.{◌≤ℤ◌, ◌<ℤ◌}
use Rattle.arithmetic.proofs.Rounding.{RoundedDown, RoundedUp}
use Rattle.arithmetic.proofs.Ring.{ring}
use Rattle.loading.specs.Fraction.{Fraction, ◌over◌, ◌plus◌, ◌per◌, ◌minus◌, LessThanThreeBelow}
use Rattle.arithmetic.proofs.Differences.{difference_le, difference_lt, difference_times, difference_more}

-- KM is rounded down; KG, (moment + surface) / W, is rounded up; and the surface is rounded up by less than W.
module _ (KM : Fraction) (unit W km kg moment surface parts : ℕ) (some : 0 < unit) (down : RoundedDown KM.top KM.bottom km) (up : RoundedUp (moment + surface) W kg) (enough : parts ≤ unit * surface) (close : unit * surface < parts + unit * W) where
  -- the factor, and the two terms of the unrounded GM times it
  abbrev x : ℕ
  x = KM.bottom * (unit * W)

  abbrev a : ℕ
  a = KM.top * (unit * W)

  abbrev b : ℕ
  b = (moment * unit + parts) * KM.bottom

  above : x * km + b ≤ a + x * kg
  above =
      let e = mul-le-mul_left (unit * W) down.low in
      let f = mul-le-mul_left unit up.low in
      let g : unit * moment + parts ≤ unit * (kg * W) = simp ring (omega (arith, enough, simp ring at f)) in
      let h = mul-le-mul_left KM.bottom g in
      simp ring (omega (arith, simp ring at e, simp ring at h))

  below : a + x * kg < x * (km + 3) + b
  below =
      let e = mul-lt-mul_of_pos_left down.high (mul-pos some up.some) in
      let f = mul-lt-mul_of_pos_left up.high some in
      let g : unit * (kg * W) < unit * moment + parts + unit * W + unit * W = simp ring (omega (arith, simp ring at f, close)) in
      let h = mul-lt-mul_of_pos_left g down.some in
      simp ring (omega (arith, simp ring at e, simp ring at h))

  pub less_than_three : LessThanThreeBelow (pos km -ℤ pos kg) (KM minus (moment plus (parts over unit)) per W)
  less_than_three = record {
    some = mul-pos down.some (mul-pos some up.some);
    never_above =
        subst (λ g. g ≤ℤ (pos a -ℤ pos b)) (sym (difference_times km kg x)) (difference_le (x * km) (x * kg) a b above);
    less_than_three_below =
        subst (λ g. (pos a -ℤ pos b) <ℤ g)
        (sym (ap (λ g. pos x *ℤ g) (difference_more km kg 3) ∙ difference_times (km + 3) kg x))
        (difference_lt a b (x * (km + 3)) (x * kg) below);
  }
