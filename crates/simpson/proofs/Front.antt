-- Two intervals off the front of a curve: the first rule on them, and the sum over the rest.
--     curve_ℤ_front, curve_front           for ordinates of either sign, and for whole ones
--     curve_two, curve_three, curve_off   as it is worked by hand: two intervals, three, and two off the front of more
-- Assumes nothing.
use mathlib.Core.Path.{◌≡◌, sym, ap, ap₂, ◌∙◌}
use Prim.Native.Nat.{ℕ, suc, ◌+◌, ◌-◌, ◌*◌, ◌≤◌}
use native.Mathlib.Nat.{zero-add}
use native.Mathlib.Numerals.{add-one, add-two}
use native.Mathlib.Omega.{arith}
use lib.IntN.{ℤ, pos, ◌+ℤ◌, ◌*ℤ◌, +ℤ_assoc}
use Rattle.arithmetic.specs.Sum.{sum_by, sum_to_ℤ}
use Rattle.arithmetic.proofs.Integer.{integer, +ℤ_*ℤ}
use Rattle.arithmetic.proofs.Sums.{sum_front, sum_same}
use Rattle.simpson.specs.Multipliers.{first_rule, second_rule, later, multiplier}
use Rattle.simpson.specs.Curve.{curve, curve_ℤ}
use Rattle.arithmetic.proofs.Whole.{pos_injective}
use Rattle.simpson.proofs.Curves.{curve_same, pos_curve}

-- the terms of stations 0..n
curve_ℤ_terms : (n : ℕ) (y : ℕ → ℤ) → curve_ℤ n y ≡ sum_to_ℤ (suc n) (λ i. pos (multiplier n i) *ℤ y i)
unfolding curve_ℤ
curve_ℤ_terms n y = ap (λ k. sum_to_ℤ k (λ i. pos (multiplier n i) *ℤ y i)) (add-one n)

-- where the rest u begins, the first rule's last station comes on top
joined : (n : ℕ) (u : ℕ → ℕ) (y : ℕ → ℤ) → sum_to_ℤ (suc n) (λ i. pos (first_rule (suc (suc i)) + u i) *ℤ y i) ≡ pos 8 *ℤ y 0 +ℤ sum_to_ℤ (suc n) (λ i. pos (u i) *ℤ y i)
unfolding first_rule
joined n u y =
    sum_front integer n (λ i. pos (first_rule (suc (suc i)) + u i) *ℤ y i)
    ∙ ap₂ ◌+ℤ◌ (+ℤ_*ℤ (pos 8) (pos (u 0)) (y 0))
    (sum_same integer n _ (λ i. pos (u (suc i)) *ℤ y (suc i)) (λ i l. ap (λ k. pos k *ℤ y (suc i)) (zero-add (u (suc i)))))
    ∙ +ℤ_assoc (pos 8 *ℤ y 0) _ _
    ∙ ap (λ s. pos 8 *ℤ y 0 +ℤ s) (sym (sum_front integer n (λ i. pos (u i) *ℤ y i)))

pub curve_ℤ_front : (n : ℕ) (y : ℕ → ℤ) → curve_ℤ (suc (suc (suc (suc n)))) y ≡ pos 8 *ℤ y 0 +ℤ (pos 32 *ℤ y 1 +ℤ (pos 8 *ℤ y 2 +ℤ curve_ℤ (suc (suc n)) (λ i. y (suc (suc i)))))
unfolding multiplier first_rule later
curve_ℤ_front n y =
    let m = suc (suc n) in
    let term : ℕ → ℤ = λ i. pos (first_rule i + later (λ j. multiplier m j) i) *ℤ y i in
    curve_ℤ_terms (suc (suc m)) y
    ∙ sum_front integer (suc (suc m)) term
    ∙ ap (λ s. pos 8 *ℤ y 0 +ℤ s) (sum_front integer (suc m) (λ i. term (suc i)))
    ∙ ap (λ s. pos 8 *ℤ y 0 +ℤ (pos 32 *ℤ y 1 +ℤ s)) (joined m (multiplier m) (λ i. y (suc (suc i))))
    ∙ ap (λ s. pos 8 *ℤ y 0 +ℤ (pos 32 *ℤ y 1 +ℤ (pos 8 *ℤ y 2 +ℤ s))) (sym (curve_ℤ_terms m (λ i. y (suc (suc i)))))

pub curve_front : (n : ℕ) (y : ℕ → ℕ) → curve (suc (suc (suc (suc n)))) y ≡ 8 * y 0 + (32 * y 1 + (8 * y 2 + curve (suc (suc n)) (λ i. y (suc (suc i)))))
curve_front n y =
    pos_injective
    (pos_curve (suc (suc (suc (suc n)))) y
    ∙ curve_ℤ_front n (λ i. pos (y i))
    ∙ ap (λ s. pos 8 *ℤ pos (y 0) +ℤ (pos 32 *ℤ pos (y 1) +ℤ (pos 8 *ℤ pos (y 2) +ℤ s))) (sym (pos_curve (suc (suc n)) (λ i. y (suc (suc i))))))

-- ---- as it is worked by hand: what two intervals come to, and three; and of more, two off the front and the rest
pub curve_two : (y : ℕ → ℕ) → curve 2 y ≡ 8 * y 0 + 32 * y 1 + 8 * y 2
unfolding curve sum_by multiplier first_rule
curve_two y = omega arith

pub curve_three : (y : ℕ → ℕ) → curve 3 y ≡ 9 * y 0 + 27 * y 1 + 27 * y 2 + 9 * y 3
unfolding curve sum_by multiplier second_rule
curve_three y = omega arith

joint : (n : ℕ) (y : ℕ → ℕ) → curve (suc (suc (suc (suc n)))) y ≡ curve 2 y + curve (suc (suc n)) (λ i. y (i + 2))
joint n y =
    let rest = curve_same (suc (suc n)) (λ i. y (suc (suc i))) (λ i. y (i + 2)) (λ i l. ap y (sym (add-two i))) in
    omega (arith, curve_front n y, curve_two y, rest)

pub curve_off : (n : ℕ) (y : ℕ → ℕ) → 4 ≤ n → curve n y ≡ curve 2 y + curve (n - 2) (λ i. y (i + 2))
curve_off n y h =
    let m = n - 4 in
    let whole : n ≡ suc (suc (suc (suc m))) = omega arith in
    let left : suc (suc m) ≡ n - 2 = omega arith in
    ap (λ n. curve n y) whole ∙ joint m y ∙ ap (λ n. curve 2 y + curve n (λ i. y (i + 2))) left
