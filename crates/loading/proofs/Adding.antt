-- Laws of sums over what is aboard.
--     total_same, total_ℤ_same      equal terms, place by place, equal sums
--     total_mono                   terms never larger, place by place, never a larger sum
--     total_none                   terms that are all none
--     total_le                     two terms over one list, the one never larger
--     total_plus, total_times      a sum of sums, and a factor taken out
-- Assumes nothing.
use mathlib.Core.Path.{◌≡◌, refl, ap₂}
use mathlib.Core.List.{List, [], ◌∷◌}
use Prim.Native.Nat.{ℕ, ◌+◌, ◌*◌, ◌≤◌}
use native.Mathlib.Nat.{mul-zero, mul-add}
use native.Mathlib.Omega.{arith}
use lib.IntN.{ℤ, ◌+ℤ◌}
use Rattle.loading.specs.Total.{total, total_ℤ, Each, none, more}

module _ {A : Type 0} {R : A → A → Type 0} where
  pub total_same : (f : A → ℕ) → ((x y : A) → R x y → f x ≡ f y) → {xs ys : List A} → Each R xs ys → total f xs ≡ total f ys
  unfolding total
  total_same f h none = refl
  total_same f h (more {x = x} {y = y} r e) = ap₂ ◌+◌ (h x y r) (total_same f h e)

  pub total_ℤ_same : (f : A → ℤ) → ((x y : A) → R x y → f x ≡ f y) → {xs ys : List A} → Each R xs ys → total_ℤ f xs ≡ total_ℤ f ys
  unfolding total_ℤ
  total_ℤ_same f h none = refl
  total_ℤ_same f h (more {x = x} {y = y} r e) = ap₂ ◌+ℤ◌ (h x y r) (total_ℤ_same f h e)

  pub total_mono : (f : A → ℕ) → ((x y : A) → R x y → f x ≤ f y) → {xs ys : List A} → Each R xs ys → total f xs ≤ total f ys
  unfolding total
  total_mono f h none = omega arith
  total_mono f h (more {x = x} {y = y} r e) = omega (arith, h x y r, total_mono f h e)

module _ {A : Type 0} where
  pub total_none : (xs : List A) → total (λ x. 0) xs ≡ 0
  unfolding total
  total_none [] = refl
  total_none (x ∷ xs) = omega (arith, total_none xs)

  pub total_le : (f g : A → ℕ) → ((x : A) → f x ≤ g x) → (xs : List A) → total f xs ≤ total g xs
  unfolding total
  total_le f g h [] = omega arith
  total_le f g h (x ∷ xs) = omega (arith, h x, total_le f g h xs)

  pub total_plus : (f g : A → ℕ) (xs : List A) → total (λ x. f x + g x) xs ≡ total f xs + total g xs
  unfolding total
  total_plus f g [] = refl
  total_plus f g (x ∷ xs) = omega (arith, total_plus f g xs)

  pub total_times : (k : ℕ) (f : A → ℕ) (xs : List A) → total (λ x. k * f x) xs ≡ k * total f xs
  unfolding total
  total_times k f [] = omega (arith, mul-zero k)
  total_times k f (x ∷ xs) = omega (arith, total_times k f xs, mul-add k (f x) (total f xs))
