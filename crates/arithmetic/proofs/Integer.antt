-- ℤ as a semiring: the laws that the kit lacks, the solver at ℤ, and examples of it.
--     +ℤ_*ℤ, *ℤ_+ℤ, *ℤ_assoc, neg_ℤ_*ℤ      the product distributes, associates, and turns with its factor
--     integer                              the instance
--     solve_ℤ                               `solve_ℤ 2 (λ a b. ..) (λ a b. ..) refl` proves an identity in two variables
-- Assumes nothing.
use mathlib.Core.Path.{◌≡◌, refl, ap, ap₂, sym, ◌∙◌}
use mathlib.Core.Bool.{Bool, true, false}
use Prim.Native.Nat.{ℕ, zero, suc}
use lib.IntN.{ℤ, pos, negsuc, suc_ℤ, pred_ℤ, neg_ℤ, ◌+ℤ◌, ◌-ℤ◌, ◌*ℤ◌, pow, one, +ℤ-suc_ℤ, +ℤ-pred_ℤ, suc_ℤ-*ℤ, pred_ℤ-*ℤ, +ℤ_idr, zero-*ℤ, +ℤ_assoc, +ℤ_comm, neg_ℤ-neg_ℤ, *ℤ_comm, *ℤ-one, *ℤ-zero, *ℤ-negsuc}
use Rattle.arithmetic.proofs.Algebra.{Semiring, is_zero, is_zero_sound}
use Rattle.arithmetic.proofs.Polynomial.{Poly, cst, Exp, con, ◌:+◌, ◌:*◌, :-◌, ◌:^◌, Of, at_vars, All, norm, eval, look, solve}

-- induction by successor and predecessor
induction : (P : ℤ → Type 0) → P (pos zero) → ((k : ℤ) → P k → P (suc_ℤ k)) → ((k : ℤ) → P k → P (pred_ℤ k)) → (k : ℤ) → P k
induction P z s p (pos zero) = z
induction P z s p (pos (suc n)) = s (pos n) (induction P z s p (pos n))
induction P z s p (negsuc zero) = p (pos zero) z
induction P z s p (negsuc (suc n)) = p (negsuc n) (induction P z s p (negsuc n))

pub +ℤ_*ℤ : (m k c : ℤ) → (m +ℤ k) *ℤ c ≡ m *ℤ c +ℤ k *ℤ c
+ℤ_*ℤ m k c =
    induction (λ k. (m +ℤ k) *ℤ c ≡ m *ℤ c +ℤ k *ℤ c)
    (ap (λ x. x *ℤ c) (+ℤ_idr m) ∙ sym (ap (λ x. m *ℤ c +ℤ x) (zero-*ℤ c) ∙ +ℤ_idr _))
    (λ k h. ap (λ x. x *ℤ c) (+ℤ-suc_ℤ m k) ∙ suc_ℤ-*ℤ (m +ℤ k) c ∙ ap (λ x. x +ℤ c) h ∙ +ℤ_assoc (m *ℤ c) (k *ℤ c) c ∙ ap (λ x. m *ℤ c +ℤ x) (sym (suc_ℤ-*ℤ k c)))
    (λ k h. ap (λ x. x *ℤ c) (+ℤ-pred_ℤ m k) ∙ pred_ℤ-*ℤ (m +ℤ k) c ∙ ap (λ x. x -ℤ c) h ∙ +ℤ_assoc (m *ℤ c) (k *ℤ c) (neg_ℤ c) ∙ ap (λ x. m *ℤ c +ℤ x) (sym (pred_ℤ-*ℤ k c)))
    k

pub *ℤ_+ℤ : (c m k : ℤ) → c *ℤ (m +ℤ k) ≡ c *ℤ m +ℤ c *ℤ k
*ℤ_+ℤ c m k = *ℤ_comm c (m +ℤ k) ∙ +ℤ_*ℤ m k c ∙ ap₂ (λ x y. x +ℤ y) (*ℤ_comm m c) (*ℤ_comm k c)

pub neg_ℤ_*ℤ : (m k : ℤ) → neg_ℤ m *ℤ k ≡ neg_ℤ (m *ℤ k)
neg_ℤ_*ℤ (pos zero) k = zero-*ℤ k ∙ sym (ap neg_ℤ (zero-*ℤ k))
neg_ℤ_*ℤ (pos (suc m)) (pos n) = refl
neg_ℤ_*ℤ (pos (suc m)) (negsuc n) = sym (neg_ℤ-neg_ℤ _)
neg_ℤ_*ℤ (negsuc m) (pos n) = sym (neg_ℤ-neg_ℤ _)
neg_ℤ_*ℤ (negsuc m) (negsuc n) = refl

pub *ℤ_assoc : (a b c : ℤ) → (a *ℤ b) *ℤ c ≡ a *ℤ (b *ℤ c)
*ℤ_assoc a b c =
    induction (λ a. (a *ℤ b) *ℤ c ≡ a *ℤ (b *ℤ c))
    (ap (λ x. x *ℤ c) (zero-*ℤ b) ∙ zero-*ℤ c ∙ sym (zero-*ℤ (b *ℤ c)))
    (λ a h. ap (λ x. x *ℤ c) (suc_ℤ-*ℤ a b) ∙ +ℤ_*ℤ (a *ℤ b) b c ∙ ap (λ x. x +ℤ b *ℤ c) h ∙ sym (suc_ℤ-*ℤ a (b *ℤ c)))
    (λ a h. ap (λ x. x *ℤ c) (pred_ℤ-*ℤ a b) ∙ +ℤ_*ℤ (a *ℤ b) (neg_ℤ b) c ∙ ap₂ (λ x y. x +ℤ y) h (neg_ℤ_*ℤ b c) ∙ sym (pred_ℤ-*ℤ a (b *ℤ c)))
    a

-- ---- the instance
abbrev pub is_zero_ℤ : ℤ → Bool
is_zero_ℤ (pos n) = is_zero n
is_zero_ℤ (negsuc n) = false

pub is_zero_ℤ_sound : (k : ℤ) → is_zero_ℤ k ≡ true → k ≡ pos zero
is_zero_ℤ_sound (pos n) h = ap pos (is_zero_sound n h)
is_zero_ℤ_sound (negsuc n) h = cc h

pub *ℤ_pos_one : (a : ℤ) → a *ℤ pos 1 ≡ a
unfolding one
*ℤ_pos_one a = *ℤ-one a

pub pow_of_zero : (a : ℤ) → pow a zero ≡ pos 1
unfolding pow one
pow_of_zero a = refl

pub pow_of_suc : (a : ℤ) (n : ℕ) → pow a (suc n) ≡ pow a n *ℤ a
unfolding pow
pow_of_suc a n = refl

abbrev pub integer : Semiring ℤ
integer = record {
  none = pos 0;
  one = pos 1;
  minus_one = negsuc 0;
  ◌⊕◌ = ◌+ℤ◌;
  ◌⊗◌ = ◌*ℤ◌;
  minus = neg_ℤ;
  power = pow;
  is_none = is_zero_ℤ;
  ⊕_assoc = +ℤ_assoc;
  ⊕_comm = +ℤ_comm;
  ⊕_none = +ℤ_idr;
  ⊗_assoc = *ℤ_assoc;
  ⊗_comm = *ℤ_comm;
  ⊗_one = *ℤ_pos_one;
  ⊗_none = *ℤ-zero;
  ⊗_⊕ = *ℤ_+ℤ;
  minus_is = λ a. sym (*ℤ-negsuc a 0 ∙ ap neg_ℤ (*ℤ_pos_one a));
  power_zero = pow_of_zero;
  power_suc = pow_of_suc;
  is_none_sound = is_zero_ℤ_sound;
}

-- a constant with its sign computed
abbrev pub lit : ℤ → Poly ℤ
lit (pos n) = cst (pos n)
lit (negsuc n) = cst (negsuc n)

pub lit_is : (a : ℤ) → lit a ≡ cst a
lit_is (pos n) = refl
lit_is (negsuc n) = refl

pub solve_ℤ : (n : ℕ) (f g : Of n (Exp ℤ) (Exp ℤ)) → norm integer lit lit_is (at_vars n 0 f) ≡ norm integer lit lit_is (at_vars n 0 g) → All n (λ xs. eval integer lit lit_is (at_vars n 0 f) (look integer lit lit_is xs) ≡ eval integer lit lit_is (at_vars n 0 g) (look integer lit lit_is xs))
solve_ℤ = solve integer lit lit_is

-- ---- examples
difference_of_squares : (a b : ℤ) → (a -ℤ b) *ℤ (a +ℤ b) ≡ a *ℤ a -ℤ b *ℤ b
difference_of_squares = solve_ℤ 2 (λ a b. (a :+ :- b) :* (a :+ b)) (λ a b. a :* a :+ :- (b :* b)) refl

fourth_power : (a b c : ℤ) → pow (a -ℤ b +ℤ c) 4 ≡ pow (a *ℤ a +ℤ b *ℤ b +ℤ c *ℤ c +ℤ pos 2 *ℤ (c *ℤ a -ℤ a *ℤ b -ℤ b *ℤ c)) 2
fourth_power =
    solve_ℤ 3 (λ a b c. (a :+ :- b :+ c) :^ 4)
    (λ a b c. (a :* a :+ b :* b :+ c :* c :+ con (pos 2) :* (c :* a :+ :- (a :* b) :+ :- (b :* c))) :^ 2) refl
