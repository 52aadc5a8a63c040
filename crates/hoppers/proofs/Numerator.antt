-- The numerator 4·A·I − 3·M² is never negative, whatever the widths. With a = p+q and b = q−p it is A·Σu·a³ and three times a weighted variance: A·Σu·a·b² − (Σu·a·b)².
--     A_is, M_is, I_is        A, M and 4·I by a and b
--     numerator_parts         the two parts
--     never_negative          neither is negative
-- Assumes nothing.
use mathlib.Core.Path.{◌≡◌, refl, sym, ap, ap₂, ◌∙◌}
use mathlib.Core.Bool.{false}
use mathlib.Core.List.{List}
use Prim.Native.Nat.{ℕ, ◌+◌, ◌-◌, ◌*◌, ◌^◌}
use lib.IntN.{ℤ, pos, ◌+ℤ◌, ◌-ℤ◌, ◌*ℤ◌}
use lib.ListN.{length, get_or}
use Rattle.arithmetic.specs.Signed.{is_negative}
use Rattle.arithmetic.specs.Sum.{sum_to_ℤ, sum_to}
use Rattle.arithmetic.proofs.Integer.{integer, solve_ℤ}
use Rattle.arithmetic.proofs.Polynomial.{con, ◌:+◌, ◌:*◌, :-◌, ◌:^◌}
use Rattle.arithmetic.proofs.Sums.{sum_same, sum_plus, times_sum}
use Rattle.arithmetic.proofs.Variance.{whole_plus, whole_times, variance_whole}
use Rattle.arithmetic.proofs.Whole.{pos_sum, pos_pow}
use Rattle.simpson.specs.Multipliers.{multiplier}
use Rattle.simpson.specs.Curve.{curve, curve_ℤ}
use Rattle.hoppers.specs.Surface.{A, M, I, numerator}

-- ---- one ordinate: u·(q²−p²) is u·a·b, and 4·u·(p³+q³) is u·a³ + 3·u·a·b²
module _ (u p q : ℕ) where
  squares_by : pos u *ℤ (pos (q ^ 2) -ℤ pos (p ^ 2)) ≡ pos (u * (p + q)) *ℤ (pos q -ℤ pos p)
  squares_by =
      ap₂ (λ s t. pos u *ℤ (s -ℤ t)) (pos_pow q 2) (pos_pow p 2)
      ∙ solve_ℤ 3 (λ u p q. u :* (q :^ 2 :+ :- (p :^ 2))) (λ u p q. u :* (p :+ q) :* (q :+ :- p)) refl (pos u) (pos p) (pos q)

  cubes_by : pos 4 *ℤ pos (u * (p ^ 3 + q ^ 3)) ≡ pos (u * (p + q) ^ 3) +ℤ pos 3 *ℤ (pos (u * (p + q)) *ℤ ((pos q -ℤ pos p) *ℤ (pos q -ℤ pos p)))
  cubes_by =
      ap₂ (λ s t. pos 4 *ℤ (pos u *ℤ (s +ℤ t))) (pos_pow p 3) (pos_pow q 3)
      ∙ solve_ℤ 3 (λ u p q. con (pos 4) :* (u :* (p :^ 3 :+ q :^ 3)))
      (λ u p q. u :* (p :+ q) :^ 3 :+ con (pos 3) :* (u :* (p :+ q) :* ((q :+ :- p) :* (q :+ :- p)))) refl (pos u) (pos p) (pos q)
      ∙ ap (λ s. pos u *ℤ s +ℤ pos 3 *ℤ (pos (u * (p + q)) *ℤ ((pos q -ℤ pos p) *ℤ (pos q -ℤ pos p)))) (sym (pos_pow (p + q) 3))

-- ---- and over the surface
module _ (port starboard : List ℕ) where
  abbrev stations : ℕ
  stations = length port - 1 + 1

  abbrev u : ℕ → ℕ
  u i = multiplier (length port - 1) i

  abbrev a : ℕ → ℕ
  a i = get_or port i 0 + get_or starboard i 0

  abbrev b : ℕ → ℤ
  b i = pos (get_or starboard i 0) -ℤ pos (get_or port i 0)

  -- the weights u·a; and the sums of u·a·b, of u·a·b² and of u·a³
  abbrev w : ℕ → ℕ
  w i = u i * a i

  abbrev leaning : ℤ
  leaning = sum_to_ℤ stations (λ i. pos (w i) *ℤ b i)

  abbrev spread : ℤ
  spread = sum_to_ℤ stations (λ i. pos (w i) *ℤ (b i *ℤ b i))

  abbrev cubes : ℕ
  cubes = sum_to stations (λ i. u i * a i ^ 3)

  A_is : pos (A port starboard) ≡ sum_to_ℤ stations (λ i. pos (w i))
  unfolding A curve
  A_is = pos_sum stations w

  M_is : M port starboard ≡ leaning
  unfolding M curve_ℤ
  M_is =
      sum_same integer stations _ (λ i. pos (w i) *ℤ b i) (λ i l. squares_by (u i) (get_or port i 0) (get_or starboard i 0))

  I_is : pos 4 *ℤ pos (I port starboard) ≡ pos cubes +ℤ pos 3 *ℤ spread
  unfolding I curve
  I_is =
      ap (λ s. pos 4 *ℤ s) (pos_sum stations (λ i. u i * (get_or port i 0 ^ 3 + get_or starboard i 0 ^ 3)))
      ∙ sym (times_sum integer stations (pos 4) (λ i. pos (u i * (get_or port i 0 ^ 3 + get_or starboard i 0 ^ 3))))
      ∙ sum_same integer stations _ (λ i. pos (u i * a i ^ 3) +ℤ pos 3 *ℤ (pos (w i) *ℤ (b i *ℤ b i))) (λ i l. cubes_by (u i) (get_or port i 0) (get_or starboard i 0))
      ∙ sum_plus integer stations (λ i. pos (u i * a i ^ 3)) (λ i. pos 3 *ℤ (pos (w i) *ℤ (b i *ℤ b i)))
      ∙ ap₂ ◌+ℤ◌ (sym (pos_sum stations (λ i. u i * a i ^ 3))) (times_sum integer stations (pos 3) (λ i. pos (w i) *ℤ (b i *ℤ b i)))

  numerator_parts : numerator port starboard ≡ pos (A port starboard * cubes) +ℤ pos 3 *ℤ (pos (A port starboard) *ℤ spread -ℤ leaning *ℤ leaning)
  unfolding numerator
  numerator_parts =
      solve_ℤ 3 (λ A M I. con (pos 4) :* A :* I :+ :- (con (pos 3) :* M :^ 2)) (λ A M I. A :* (con (pos 4) :* I) :+ :- (con (pos 3) :* (M :* M))) refl
      (pos (A port starboard)) (M port starboard) (pos (I port starboard))
      ∙ ap₂ (λ m i. pos (A port starboard) *ℤ i -ℤ pos 3 *ℤ (m *ℤ m)) M_is I_is
      ∙ solve_ℤ 4 (λ A B C T. A :* (T :+ con (pos 3) :* C) :+ :- (con (pos 3) :* (B :* B))) (λ A B C T. A :* T :+ con (pos 3) :* (A :* C :+ :- (B :* B))) refl
      (pos (A port starboard)) leaning spread (pos cubes)

  variance : is_negative (pos (A port starboard) *ℤ spread -ℤ leaning *ℤ leaning) ≡ false
  variance = ap (λ s. is_negative (s *ℤ spread -ℤ leaning *ℤ leaning)) A_is ∙ variance_whole w b stations

  pub never_negative : is_negative (numerator port starboard) ≡ false
  never_negative =
      ap is_negative numerator_parts
      ∙ whole_plus (pos (A port starboard * cubes)) (pos 3 *ℤ (pos (A port starboard) *ℤ spread -ℤ leaning *ℤ leaning)) refl
      (whole_times 3 (pos (A port starboard) *ℤ spread -ℤ leaning *ℤ leaning) variance)
