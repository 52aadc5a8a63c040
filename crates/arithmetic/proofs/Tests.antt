-- What tests tell.
--     both            both halves of a joint test
--     never           no test is both false and true
--     by_test         what follows either way of a test
--     same_or_other   the same of two numbers, equal or not
--     same_test       two tests that hold together are the same
--     less_or_not     one number is below another, or it is not
--     flag_le         a test, counted, is at most 1
--     each, each_at   a test at so many numbers from one on, to be computed; and what it says of each
-- Assumes nothing.
use Prim.Native.Nat.{ℕ, zero, suc, ◌+◌, ◌≤◌, ◌<◌}
use mathlib.Core.Bool.{Bool, true, false, ◌&&◌}
use mathlib.Core.Logic.{◌⊎◌, inl, inr}
use mathlib.Core.Path.{◌≡◌, refl, sym, subst}
use native.Mathlib.Omega.{arith}
use borrow.Author.Tests.{ltb-true, ltb-false, eqb-true, eqb-false}
use lib.Dec.{ltb, eqb, lit≤}
use mir.Val.{bool_byte}

pub both : (a b : Bool) → a && b ≡ true → (a ≡ true) × (b ≡ true)
both true b e = (refl, e)
both false b e = (e, cc)

pub never : {X : Type 0} → false ≡ true → X
never e = let z : ◌≡◌ {A = ℕ} 0 1 = cc in absurd (omega arith)

pub by_test : {P : Type 0} (t : Bool) → (t ≡ true → P) → (t ≡ false → P) → P
by_test true x y = x refl
by_test false x y = y refl

pub same_or_other : {P : Type 0} (j k : ℕ) → (j ≡ k → P) → ((j ≡ k → ⊥) → P) → P
same_or_other j k same other = by_test (eqb j k) (λ e. same (eqb-true j k e)) (λ e. other (eqb-false j k e))

pub same_test : (a b : Bool) → (a ≡ true → b ≡ true) → (b ≡ true → a ≡ true) → a ≡ b
same_test true b f g = sym (f refl)
same_test false true f g = g refl
same_test false false f g = refl

pub less_or_not : (n m : ℕ) → (n < m) ⊎ (m ≤ n)
less_or_not n m = told (ltb n m) refl
  where
    told : (t : Bool) → ltb n m ≡ t → (n < m) ⊎ (m ≤ n)
    told true e = inl (ltb-true n m e)
    told false e = inr (ltb-false n m e)

pub flag_le : (t : Bool) → bool_byte t ≤ 1
flag_le true = lit≤ tt
flag_le false = lit≤ tt

unfoldable pub each : (ℕ → Bool) → ℕ → ℕ → Bool
each f from zero = true
each f from (suc count) = f from && each f (suc from) count

pub each_at : (f : ℕ → Bool) (from count : ℕ) → each f from count ≡ true → (i : ℕ) → from ≤ i → i < from + count → f i ≡ true
unfolding each
each_at f from zero e i h k = absurd (omega arith)
each_at f from (suc count) e i h k =
    let so = both (f from) (each f (suc from) count) e in
    same_or_other i from (λ is. subst (λ i. f i ≡ true) (sym is) so.0) (λ other. each_at f (suc from) count so.1 i (omega arith) (omega arith))
