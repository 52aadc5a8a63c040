-- The multipliers by place are the paper's, and how large they are.
--     by_place                          at every count and station
--     multiplier_le, multiplier_ge      at most 32; at a station there is, at least 8
-- Assumes nothing.
use mathlib.Core.Bool.{Bool, false}
use mathlib.Core.Path.{◌≡◌, refl, sym, ◌∙◌}
use Prim.Native.Nat.{ℕ, zero, suc, ◌+◌, ◌-◌, ◌%◌, ◌≤◌, ◌<◌}
use native.Mathlib.Nat.{zero-add, suc-sub-suc}
use native.Mathlib.Omega.{arith}
use borrow.Author.Tests.{lt-ltb, le-ltb, ne_eqb}
use lib.Dec.{eqb, ltb, eqb-suc-suc, eqb-suc-zero, leb-suc-suc}
use Rattle.arithmetic.specs.Choice.{when◌then◌else◌}
use Rattle.arithmetic.proofs.Choice.{if_either, chosen}
use Rattle.simpson.specs.Multipliers.{first_rule, second_rule, later, multiplier}
use Rattle.simpson.specs.Private.Places.{repeated_first, second_last, placed}

-- two intervals, or two stations, more
abbrev more : ℕ → ℕ
more n = suc (suc n)

abbrev Placed : ℕ → ℕ → Type 0
Placed n i = multiplier n i ≡ placed n i

few : (n i : ℕ) → n < 2 → 0 ≡ placed n i
unfolding placed
few n i h = simp (lt-ltb n 2 h, chosen)

beyond : (n i : ℕ) → n < i → 0 ≡ placed n i
unfolding placed
beyond n i h = if_either (λ u. 0 ≡ u) (ltb n 2) (λ e. refl) (λ e. simp (lt-ltb n i h, chosen))

-- before the last three intervals the first rule is repeated, be the count even or odd
before : (n i : ℕ) → i + 3 < n → placed n i ≡ repeated_first n i
unfolding placed second_last
before n i h =
    simp (le-ltb n 2 (omega arith), le-ltb n i (omega arith), chosen)
    (if_either (λ u. u ≡ repeated_first n i) (eqb (n % 2) 0) (λ e. refl)
    (λ e. simp (ne_eqb (n - i) 0 (λ z. omega arith), le-ltb (n - i) 3 (omega arith), lt-ltb 3 (n - i) (omega arith), chosen)))

-- with two intervals more in front, a station other than the first is as far from the end, and as even
along : (n i : ℕ) → placed (more (more n)) (more (suc i)) ≡ placed (more n) (suc i)
unfolding placed repeated_first second_last
along n i =
    let enough : (m : ℕ) → ltb (more m) 2 ≡ false = λ m. le-ltb (more m) 2 (omega arith) in
    let count : more (more n) % 2 ≡ more n % 2 = omega arith in
    let station : more (suc i) % 2 ≡ suc i % 2 = omega arith in
    rw (enough n, enough (more n), count, station) (simp (eqb-suc-suc, eqb-suc-zero, leb-suc-suc, suc-sub-suc))

-- the first three stations of four intervals, of five, and of more
start : (n : ℕ) → Placed (more (more n)) 0 × Placed (more (more n)) 1 × Placed (more (more n)) 2
unfolding multiplier first_rule second_rule later placed repeated_first second_last when◌then◌else◌
start zero = (refl, refl, refl)
start (suc zero) = (refl, refl, refl)
start (suc (suc n)) =
    let last = more (more (more n)) in (
      sym (before last 0 (omega arith)),
      sym (before last 1 (omega arith) ∙ rw (ne_eqb 1 last (λ e. omega arith))),
      sym (before last 2 (omega arith) ∙ rw (ne_eqb 2 last (λ e. omega arith))),
    )

next : (n : ℕ) → ((i : ℕ) → Placed (more n) i) → (i : ℕ) → Placed (more (more n)) i
unfolding multiplier first_rule later
next n h zero = (start n).0
next n h (suc zero) = (start n).1
next n h (suc (suc zero)) = (start n).2
next n h (suc (suc (suc i))) = zero-add (multiplier (more n) (suc i)) ∙ h (suc i) ∙ sym (along n i)

pub by_place : (n i : ℕ) → multiplier n i ≡ placed n i
unfolding multiplier first_rule second_rule placed repeated_first second_last when◌then◌else◌
by_place zero i = few 0 i (omega arith)
by_place (suc zero) i = few 1 i (omega arith)
by_place (suc (suc zero)) zero = refl
by_place (suc (suc zero)) (suc zero) = refl
by_place (suc (suc zero)) (suc (suc zero)) = refl
by_place (suc (suc zero)) (suc (suc (suc i))) = beyond 2 (more (suc i)) (omega arith)
by_place (suc (suc (suc zero))) zero = refl
by_place (suc (suc (suc zero))) (suc zero) = refl
by_place (suc (suc (suc zero))) (suc (suc zero)) = refl
by_place (suc (suc (suc zero))) (suc (suc (suc zero))) = refl
by_place (suc (suc (suc zero))) (suc (suc (suc (suc i)))) = beyond 3 (more (more i)) (omega arith)
by_place (suc (suc (suc (suc n)))) i = next n (by_place (suc (suc n))) i

-- ---- how large they are
record Within (u : ℕ) : Type 0 where
  low : 8 ≤ u
  high : u ≤ 32

both : {a b : ℕ} (t : Bool) → Within a → Within b → Within (when t then a else b)
both t x y = if_either Within t (λ e. x) (λ e. y)

repeated_within : (n i : ℕ) → Within (repeated_first n i)
unfolding repeated_first
repeated_within n i = both _ (omega arith) (both _ (omega arith) (both _ (omega arith) (omega arith)))

last_within : (n i : ℕ) → Within (second_last n i)
unfolding second_last
last_within n i =
    both _ (omega arith) (both _ (omega arith) (both _ (repeated_within n i) (both _ (omega arith) (omega arith))))

module _ (n i : ℕ) where
  pub multiplier_le : multiplier n i ≤ 32
  unfolding placed
  multiplier_le =
      rw (by_place n i)
      (if_either (λ u. u ≤ 32) (ltb n 2) (λ e. omega arith)
      (λ e. if_either (λ u. u ≤ 32) (ltb n i) (λ e. omega arith) (λ e. (both _ (repeated_within n i) (last_within n i)).high)))

  pub multiplier_ge : 2 ≤ n → i ≤ n → 8 ≤ multiplier n i
  unfolding placed
  multiplier_ge h k =
      rw (by_place n i, le-ltb n 2 h, le-ltb n i k) (simp chosen (both _ (repeated_within n i) (last_within n i)).low)
