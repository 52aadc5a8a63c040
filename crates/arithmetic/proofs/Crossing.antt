-- The crossing between a signed 64-bit number and a whole one. A signed local holds bits: every read of one shows as what is read back from its bits, `back v`.
--     back, back_is                      what is read back is the number
--     heard                              what a callee says of a number that it was handed
--     eq_ℤ_same, same_eq_ℤ               `eq_ℤ` holds of one number and itself, and of no others
--     same_bits                          two numbers are the same where their bits are
--     cast_defined                       the cast of a number that is not below 0
--     Turned, turn                       the steps from a negative number to its magnitude
--     mag_le                             what 64 bits have to hold of a number is no more than its size
--     nearest_fits, nearest_of_small     a nearest number is held by 64 bits; one that they hold is its own nearest
--     nearest_back                       a callee's nearest number, read back
--     less_under, less_over              a less b, by which of the two is smaller
--     less_whole                         where that is not negative, b is not above a
-- Assumes nothing.
use Prim.Native.Nat.{ℕ, zero, suc, ◌+◌, ◌-◌, ◌^◌, ◌<◌, ◌≤◌}
use mathlib.Core.Bool.{Bool, true, false}
use mathlib.Core.Path.{◌≡◌, refl, sym, ap, subst, ◌∙◌}
use native.Mathlib.Nat.{min-eq_left, min-le_right}
use native.Mathlib.Omega.{arith}
use borrow.Author.Tests.{eqb-true, eqb-false, eq-eqb, lt-ltb, le-ltb, ltb-true, ltb-false}
use lib.Dec.{T, eqb, ltb}
use lib.IntN.{ℤ, pos, negsuc, nat_abs, neg_ℤ, suc_ℤ, ◌+ℤ◌, ◌-ℤ◌, +ℤ_idl, +ℤ_one}
use lib.Signed.{non_neg, mag}
use mir.Facts.{to_z-of_z, Fits-nat_abs}
use mir.Syntax.{w64}
use mir.Val.{Fits, SFits, to_z, of_z}
use Rattle.arithmetic.proofs.Tests.{never, by_test}
use Rattle.arithmetic.specs.Signed.{is_negative, eq_ℤ, nearest}

abbrev pub back : ℤ → ℤ
back v = to_z w64 (of_z w64 v)

pub back_is : {v : ℤ} → SFits w64 v → back v ≡ v
back_is f = to_z-of_z f

-- what a callee says of what it read back, it says of the number
pub heard : {X : Type 0} (f : ℤ → X) {v : ℤ} {r : X} → SFits w64 v → r ≡ f (back v) → r ≡ f v
heard f h e = e ∙ ap f (back_is h)

-- ---- the same number
pub eq_ℤ_same : (a b : ℤ) → eq_ℤ a b ≡ true → a ≡ b
unfolding eq_ℤ
eq_ℤ_same (pos m) (pos n) e = ap pos (eqb-true m n e)
eq_ℤ_same (pos m) (negsuc n) e = never e
eq_ℤ_same (negsuc m) (pos n) e = never e
eq_ℤ_same (negsuc m) (negsuc n) e = ap negsuc (eqb-true m n e)

pub same_eq_ℤ : (a : ℤ) → eq_ℤ a a ≡ true
unfolding eq_ℤ
same_eq_ℤ (pos n) = eq-eqb n n refl
same_eq_ℤ (negsuc n) = eq-eqb n n refl

pub same_bits : (a b : ℤ) → SFits w64 a → SFits w64 b → eqb (of_z w64 a) (of_z w64 b) ≡ eq_ℤ a b
same_bits a b h k = by_both (eqb (of_z w64 a) (of_z w64 b)) (eq_ℤ a b) refl refl
  where
    by_both : (s t : Bool) → eqb (of_z w64 a) (of_z w64 b) ≡ s → eq_ℤ a b ≡ t → eqb (of_z w64 a) (of_z w64 b) ≡ eq_ℤ a b
    by_both true true e f = e ∙ sym f
    by_both false false e f = e ∙ sym f
    by_both true false e f =
        let same : a ≡ b = sym (back_is h) ∙ ap (λ n. to_z w64 n) (eqb-true (of_z w64 a) (of_z w64 b) e) ∙ back_is k in
        never (sym f ∙ ap (λ z. eq_ℤ a z) (sym same) ∙ same_eq_ℤ a)
    by_both false true e f = absurd (eqb-false (of_z w64 a) (of_z w64 b) e (ap (λ z. of_z w64 z) (eq_ℤ_same a b f)))

-- a number that is not below 0 is whole, and its cast is defined
whole : (v : ℤ) → is_negative v ≡ false → T (non_neg v)
whole (pos n) e = tt
whole (negsuc n) e = subst T e tt

pub cast_defined : {v : ℤ} → SFits w64 v → is_negative v ≡ false → T (non_neg (back v)) × Fits w64 (nat_abs (back v))
cast_defined {v} f e = rw (back_is f) (whole v e, Fits-nat_abs tt f)

-- 64 bits hold each number down to −2⁶³
pub negative_fits : (k : ℕ) → k ≤ 2 ^ 63 → SFits w64 (neg_ℤ (pos k))
negative_fits zero h = record { sfits = omega arith }
negative_fits (suc k) h = record { sfits = omega arith }

-- one more than −k − 1 is −k
one_up : (k : ℕ) → negsuc k +ℤ pos 1 ≡ neg_ℤ (pos k)
one_up k = +ℤ_one (negsuc k) ∙ raised k
  where
    raised : (k : ℕ) → suc_ℤ (negsuc k) ≡ neg_ℤ (pos k)
    raised zero = refl
    raised (suc k) = refl

turned : (k : ℕ) → pos 0 -ℤ neg_ℤ (pos k) ≡ pos k
turned zero = refl
turned (suc k) = +ℤ_idl (pos (suc k))

-- A negative number v, read back, raised by one and turned round: each step is held, and the last gives its magnitude less one.
pub record Turned (v : ℤ) : Type 0 where
  pub less_one : ℕ
  pub magnitude_is : nat_abs v ≡ less_one + 1
  pub raised_fits : SFits w64 (back v +ℤ pos 1)
  pub turned_fits : SFits w64 (pos 0 -ℤ back (back v +ℤ pos 1))
  pub turned_is : back (pos 0 -ℤ back (back v +ℤ pos 1)) ≡ pos less_one
  pub small : less_one < 2 ^ 63

pub turn : (v : ℤ) → SFits w64 v → is_negative v ≡ true → Turned v
turn (pos n) f e = absurd (subst T (sym e) tt)
turn (negsuc k) f e =
    let up : back (negsuc k) +ℤ pos 1 ≡ neg_ℤ (pos k) = ap (λ z. z +ℤ pos 1) (back_is f) ∙ one_up k in
    let held : SFits w64 (back (negsuc k) +ℤ pos 1) = rw up (negative_fits k (omega arith)) in
    let round : pos 0 -ℤ back (back (negsuc k) +ℤ pos 1) ≡ pos k = ap (λ z. pos 0 -ℤ z) (back_is held ∙ up) ∙ turned k in
    let held₂ : SFits w64 (pos 0 -ℤ back (back (negsuc k) +ℤ pos 1)) = rw round (record { sfits = f.sfits }) in
    record {
      less_one = k;
      magnitude_is = omega arith;
      raised_fits = held;
      turned_fits = held₂;
      turned_is = back_is held₂ ∙ round;
      small = f.sfits;
    }

pub mag_le : (v : ℤ) → mag v ≤ nat_abs v
mag_le (pos n) = omega arith
mag_le (negsuc n) = omega arith

-- ---- the nearest number that 64 bits hold
pub nearest_fits : (v : ℤ) → SFits w64 (nearest v)
unfolding nearest
nearest_fits (pos n) = record { sfits = omega (arith, min-le_right n (2 ^ 63 - 1)) }
nearest_fits (negsuc n) = record { sfits = omega (arith, min-le_right n (2 ^ 63 - 1)) }

pub nearest_of_small : (v : ℤ) → mag v < 2 ^ 63 → nearest v ≡ v
unfolding nearest
nearest_of_small (pos n) h = ap pos (min-eq_left (omega arith))
nearest_of_small (negsuc n) h = ap negsuc (min-eq_left (omega arith))

-- what a callee that answers a nearest number hands back is that number
pub nearest_back : (v : ℤ) {r : ℤ} → r ≡ nearest v → back r ≡ nearest v
nearest_back v e = ap back e ∙ back_is (nearest_fits v)

-- ---- a difference of two whole numbers, by which is smaller
pub less_under : (a b : ℕ) → a < b → pos a -ℤ pos b ≡ neg_ℤ (pos (b - a))
less_under a zero h = absurd (omega arith)
less_under a (suc b) h =
    let e : suc b - a ≡ suc (b - a) = omega arith in
    rw (lt-ltb a (suc b) h, e) (ap negsuc (omega arith))

pub less_over : (a b : ℕ) → b ≤ a → pos a -ℤ pos b ≡ pos (a - b)
less_over a zero h = ap pos (omega arith)
less_over a (suc b) h = rw (le-ltb a (suc b) h)

below_zero_is : (k : ℕ) → 0 < k → is_negative (neg_ℤ (pos k)) ≡ true
below_zero_is zero h = absurd (omega arith)
below_zero_is (suc k) h = refl

pub less_whole : (a b : ℕ) → is_negative (pos a -ℤ pos b) ≡ false → b ≤ a
less_whole a b h =
    by_test (ltb a b)
    (λ t. let under = ltb-true a b t in never (sym h ∙ ap is_negative (less_under a b under) ∙ below_zero_is (b - a) (omega arith)))
    (λ t. ltb-false a b t)
