-- Sums over what is aboard, and lists that answer to one another place by place. Their laws: `Adding` of proofs/.
use Rattle.std.specs.Prelude.{List, [], ◌∷◌, ℕ, ◌+◌, ℤ, pos, ◌+ℤ◌}

unfoldable pub total : {A : Type 0} → (A → ℕ) → List A → ℕ
total f [] = 0
total f (x ∷ xs) = f x + total f xs

unfoldable pub total_ℤ : {A : Type 0} → (A → ℤ) → List A → ℤ
total_ℤ f [] = pos 0
total_ℤ f (x ∷ xs) = f x +ℤ total_ℤ f xs

-- as many in both, and each in R to the one in its place
pub data Each {A : Type 0} (R : A → A → Type 0) : List A → List A → Type 0 where
  none : Each R [] []
  more : {x y : A} {xs ys : List A} → R x y → Each R xs ys → Each R (x ∷ xs) (y ∷ ys)
