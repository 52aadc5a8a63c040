-- A commutative semiring with powers: the laws that the sums and the solver rest on, so that each is proved once for ℕ and ℤ.
--     Semiring        the operations and their laws; where there is no negation, `minus` is constantly zero, and `minus_one` is zero
--     natural         ℕ (the instance for ℤ stands in `Integer`)
-- Assumes nothing.
use mathlib.Core.Path.{◌≡◌, refl, sym}
use mathlib.Core.Bool.{Bool, true, false}
use Prim.Native.Nat.{ℕ, zero, suc, ◌+◌, ◌*◌, ◌^◌}
use native.Mathlib.Nat as Nat

pub record Semiring (R : Type 0) : Type 0 where
  infixl 6 ◌⊕◌
  infixl 7 ◌⊗◌
  pub none : R
  pub one : R
  pub minus_one : R
  pub ◌⊕◌ : R → R → R
  pub ◌⊗◌ : R → R → R
  pub minus : R → R
  pub power : R → ℕ → R
  pub is_none : R → Bool
  pub ⊕_assoc : (a b c : R) → (a ⊕ b) ⊕ c ≡ a ⊕ (b ⊕ c)
  pub ⊕_comm : (a b : R) → a ⊕ b ≡ b ⊕ a
  pub ⊕_none : (a : R) → a ⊕ none ≡ a
  pub ⊗_assoc : (a b c : R) → (a ⊗ b) ⊗ c ≡ a ⊗ (b ⊗ c)
  pub ⊗_comm : (a b : R) → a ⊗ b ≡ b ⊗ a
  pub ⊗_one : (a : R) → a ⊗ one ≡ a
  pub ⊗_none : (a : R) → a ⊗ none ≡ none
  pub ⊗_⊕ : (a b c : R) → a ⊗ (b ⊕ c) ≡ (a ⊗ b) ⊕ (a ⊗ c)
  pub minus_is : (a : R) → minus a ≡ a ⊗ minus_one
  pub power_zero : (a : R) → power a zero ≡ one
  pub power_suc : (a : R) (n : ℕ) → power a (suc n) ≡ power a n ⊗ a
  pub is_none_sound : (a : R) → is_none a ≡ true → a ≡ none

abbrev pub is_zero : ℕ → Bool
is_zero zero = true
is_zero (suc n) = false

pub is_zero_sound : (n : ℕ) → is_zero n ≡ true → n ≡ zero
is_zero_sound zero h = refl
is_zero_sound (suc n) h = cc h

abbrev pub natural : Semiring ℕ
natural = record {
  none = 0;
  one = 1;
  minus_one = 0;
  ◌⊕◌ = ◌+◌;
  ◌⊗◌ = ◌*◌;
  minus = λ a. 0;
  power = ◌^◌;
  is_none = is_zero;
  ⊕_assoc = Nat.add_assoc;
  ⊕_comm = Nat.add_comm;
  ⊕_none = Nat.add-zero;
  ⊗_assoc = Nat.mul_assoc;
  ⊗_comm = Nat.mul_comm;
  ⊗_one = Nat.mul-one;
  ⊗_none = Nat.mul-zero;
  ⊗_⊕ = Nat.mul-add;
  minus_is = λ a. sym (Nat.mul-zero a);
  power_zero = Nat.pow-zero;
  power_suc = Nat.pow-suc;
  is_none_sound = is_zero_sound;
}
