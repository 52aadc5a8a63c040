-- Exact areas: the sum over a cubic is 24 times its integral, for every count of two intervals or more and coefficients of either sign.
--     curve_ℤ_of_cubic        by induction on the count, for all cubics at once: two intervals off the front leave a cubic
-- Assumes nothing.
use mathlib.Core.Path.{◌≡◌, refl, sym, ap, ◌∙◌, fun_ext}
use Prim.Native.Nat.{ℕ, zero, suc, ◌≤◌}
use native.Mathlib.Numerals.{add-two}
use native.Mathlib.Omega.{arith}
use lib.IntN.{ℤ, pos, ◌+ℤ◌, ◌*ℤ◌}
use Rattle.arithmetic.specs.Sum.{sum_by}
use Rattle.arithmetic.proofs.Polynomial.{Exp, con, ◌:+◌, ◌:*◌, ◌:^◌}
use Rattle.arithmetic.proofs.Integer.{solve_ℤ}
use Rattle.simpson.specs.Multipliers.{first_rule, second_rule, multiplier}
use Rattle.simpson.specs.Curve.{curve_ℤ}
use Rattle.simpson.specs.Cubic.{cubic, area}
use Rattle.simpson.proofs.Front.{curve_ℤ_front}

-- ---- the cubic, its area, and a rule's term, as the solver reads them
abbrev number : ℕ → Exp ℤ
number k = con (pos k)

abbrev Function : Type 0
Function = Exp ℤ → Exp ℤ → Exp ℤ → Exp ℤ → Exp ℤ → Exp ℤ

abbrev cubic_exp : Function
cubic_exp a b c e i = a :+ b :* i :+ c :* i :^ 2 :+ e :* i :^ 3

abbrev area_exp : Function
area_exp a b c e n = number 24 :* a :* n :+ number 12 :* b :* n :^ 2 :+ number 8 :* c :* n :^ 3 :+ number 6 :* e :* n :^ 4

abbrev term : ℕ → ℕ → Exp ℤ → Exp ℤ → Exp ℤ → Exp ℤ → Exp ℤ
term u i a b c e = number u :* cubic_exp a b c e (number i)

-- a function of the coefficients of the same cubic, told from two stations on
abbrev onward : Function → Function
onward f a b c e =
    f (a :+ number 2 :* b :+ number 4 :* c :+ number 8 :* e) (b :+ number 4 :* c :+ number 12 :* e) (c :+ number 6 :* e) e

-- ---- those coefficients, the step of the induction, and its two beginnings
module _ (a b c e : ℤ) where
  a₂ : ℤ
  a₂ = a +ℤ pos 2 *ℤ b +ℤ pos 4 *ℤ c +ℤ pos 8 *ℤ e

  b₂ : ℤ
  b₂ = b +ℤ pos 4 *ℤ c +ℤ pos 12 *ℤ e

  c₂ : ℤ
  c₂ = c +ℤ pos 6 *ℤ e

  shift : (i : ℕ) → cubic a b c e (pos (suc (suc i))) ≡ cubic a₂ b₂ c₂ e (pos i)
  unfolding a₂ b₂ c₂
  shift i =
      ap (λ k. cubic a b c e (pos k)) (sym (add-two i))
      ∙ solve_ℤ 5 (λ a b c e i. cubic_exp a b c e (i :+ number 2)) (onward cubic_exp) refl a b c e (pos i)

  grow : (n : ℕ) → pos 8 *ℤ cubic a b c e (pos 0) +ℤ (pos 32 *ℤ cubic a b c e (pos 1) +ℤ (pos 8 *ℤ cubic a b c e (pos 2) +ℤ area a₂ b₂ c₂ e (pos n))) ≡ area a b c e (pos (suc (suc n)))
  unfolding a₂ b₂ c₂
  grow n =
      solve_ℤ 5 (λ a b c e n. term 8 0 a b c e :+ (term 32 1 a b c e :+ (term 8 2 a b c e :+ onward area_exp a b c e n)))
      (λ a b c e n. area_exp a b c e (n :+ number 2)) refl a b c e (pos n)
      ∙ ap (λ k. area a b c e (pos k)) (add-two n)

  at_two : curve_ℤ 2 (λ i. cubic a b c e (pos i)) ≡ area a b c e (pos 2)
  unfolding curve_ℤ sum_by multiplier first_rule
  at_two =
      solve_ℤ 4 (λ a b c e. number 0 :+ term 8 0 a b c e :+ term 32 1 a b c e :+ term 8 2 a b c e)
      (λ a b c e. area_exp a b c e (number 2)) refl a b c e

  at_three : curve_ℤ 3 (λ i. cubic a b c e (pos i)) ≡ area a b c e (pos 3)
  unfolding curve_ℤ sum_by multiplier second_rule
  at_three =
      solve_ℤ 4 (λ a b c e. number 0 :+ term 9 0 a b c e :+ term 27 1 a b c e :+ term 27 2 a b c e :+ term 9 3 a b c e)
      (λ a b c e. area_exp a b c e (number 3)) refl a b c e

-- over n intervals every cubic is exact
abbrev Exact : ℕ → Type 0
Exact n = (a b c e : ℤ) → curve_ℤ n (λ i. cubic a b c e (pos i)) ≡ area a b c e (pos n)

next : (n : ℕ) → Exact (suc (suc n)) → Exact (suc (suc (suc (suc n))))
next n h a b c e =
    curve_ℤ_front n (λ i. cubic a b c e (pos i))
    ∙ ap (λ s. pos 8 *ℤ cubic a b c e (pos 0) +ℤ (pos 32 *ℤ cubic a b c e (pos 1) +ℤ (pos 8 *ℤ cubic a b c e (pos 2) +ℤ s)))
    (ap (curve_ℤ (suc (suc n))) (fun_ext (shift a b c e)) ∙ h (a₂ a b c e) (b₂ a b c e) (c₂ a b c e) e)
    ∙ grow a b c e (suc (suc n))

pub curve_ℤ_of_cubic : (n : ℕ) → 2 ≤ n → (a b c e : ℤ) → curve_ℤ n (λ i. cubic a b c e (pos i)) ≡ area a b c e (pos n)
curve_ℤ_of_cubic zero h = absurd (omega arith)
curve_ℤ_of_cubic (suc zero) h = absurd (omega arith)
curve_ℤ_of_cubic (suc (suc zero)) h = at_two
curve_ℤ_of_cubic (suc (suc (suc zero))) h = at_three
curve_ℤ_of_cubic (suc (suc (suc (suc n)))) h = next n (curve_ℤ_of_cubic (suc (suc n)) (omega arith))
