-- A weighted variance is never negative: of values b of either sign with whole weights w, the sum of the weights times the sum of w·b² is at least the square of the sum of w·b.
--     whole_plus, whole_times, whole_square     sums and products that are not negative
--     variance_whole                            the variance, by one value more at a time
-- Assumes nothing.
use mathlib.Core.Path.{◌≡◌, refl, sym, ap, ◌∙◌}
use mathlib.Core.Bool.{false}
use Prim.Native.Nat.{ℕ, zero, suc}
use lib.IntN.{ℤ, pos, negsuc, ◌+ℤ◌, ◌-ℤ◌, ◌*ℤ◌}
use Rattle.arithmetic.specs.Signed.{is_negative}
use Rattle.arithmetic.specs.Sum.{sum_by, sum_to_ℤ}
use Rattle.arithmetic.proofs.Integer.{solve_ℤ}
use Rattle.arithmetic.proofs.Polynomial.{con, ◌:+◌, ◌:*◌, :-◌}
use Rattle.arithmetic.proofs.Tests.{never}

pub whole_plus : (a b : ℤ) → is_negative a ≡ false → is_negative b ≡ false → is_negative (a +ℤ b) ≡ false
whole_plus (pos m) (pos n) h k = refl
whole_plus (pos m) (negsuc n) h k = never (sym k)
whole_plus (negsuc m) b h k = never (sym h)

pub whole_times : (n : ℕ) (a : ℤ) → is_negative a ≡ false → is_negative (pos n *ℤ a) ≡ false
whole_times n (pos m) h = refl
whole_times n (negsuc m) h = never (sym h)

pub whole_square : (a : ℤ) → is_negative (a *ℤ a) ≡ false
whole_square (pos n) = refl
whole_square (negsuc n) = refl

module _ (w : ℕ → ℕ) (b : ℕ → ℤ) where
  -- the sums over the first n values: of the weights, of w·b and of w·b²
  abbrev weights : ℕ → ℤ
  weights n = sum_to_ℤ n (λ i. pos (w i))

  abbrev values : ℕ → ℤ
  values n = sum_to_ℤ n (λ i. pos (w i) *ℤ b i)

  abbrev squares : ℕ → ℤ
  squares n = sum_to_ℤ n (λ i. pos (w i) *ℤ (b i *ℤ b i))

  -- the sum of w·(b − x)² over the first n values
  spread : ℕ → ℤ → ℤ
  spread n x = squares n -ℤ pos 2 *ℤ x *ℤ values n +ℤ x *ℤ x *ℤ weights n

  spread_whole : (n : ℕ) (x : ℤ) → is_negative (spread n x) ≡ false
  unfolding spread sum_by
  spread_whole zero x =
      ap is_negative (solve_ℤ 1 (λ x. con (pos 0) :+ :- (con (pos 2) :* x :* con (pos 0)) :+ x :* x :* con (pos 0)) (λ x. con (pos 0)) refl x)
  spread_whole (suc n) x =
      ap is_negative
      (solve_ℤ 6 (λ x w b W B C. C :+ w :* (b :* b) :+ :- (con (pos 2) :* x :* (B :+ w :* b)) :+ x :* x :* (W :+ w))
      (λ x w b W B C. C :+ :- (con (pos 2) :* x :* B) :+ x :* x :* W :+ w :* ((b :+ :- x) :* (b :+ :- x))) refl
      x (pos (w n)) (b n) (weights n) (values n) (squares n))
      ∙ whole_plus (spread n x) (pos (w n) *ℤ ((b n -ℤ x) *ℤ (b n -ℤ x))) (spread_whole n x)
      (whole_times (w n) ((b n -ℤ x) *ℤ (b n -ℤ x)) (whole_square (b n -ℤ x)))

  pub variance_whole : (n : ℕ) → is_negative (sum_to_ℤ n (λ i. pos (w i)) *ℤ sum_to_ℤ n (λ i. pos (w i) *ℤ (b i *ℤ b i)) -ℤ sum_to_ℤ n (λ i. pos (w i) *ℤ b i) *ℤ sum_to_ℤ n (λ i. pos (w i) *ℤ b i)) ≡ false
  unfolding spread sum_by
  variance_whole zero = refl
  variance_whole (suc n) =
      ap is_negative
      (solve_ℤ 5 (λ w b W B C. (W :+ w) :* (C :+ w :* (b :* b)) :+ :- ((B :+ w :* b) :* (B :+ w :* b)))
      (λ w b W B C. W :* C :+ :- (B :* B) :+ w :* (C :+ :- (con (pos 2) :* b :* B) :+ b :* b :* W)) refl
      (pos (w n)) (b n) (weights n) (values n) (squares n))
      ∙ whole_plus (weights n *ℤ squares n -ℤ values n *ℤ values n) (pos (w n) *ℤ spread n (b n)) (variance_whole n)
      (whole_times (w n) (spread n (b n)) (spread_whole n (b n)))
