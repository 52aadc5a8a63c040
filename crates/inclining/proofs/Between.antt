-- GM as measured beside the shifts' own GMs, and beside its fraction.
--     measured_down                 it is the fraction rounded down
--     not_under, not_over           no lower than what every shift's own reaches, no higher than what none exceeds
--     extreme                       of some numbers one is the first of all, in any order that has every two in it
--     least_below, greatest_above   so it lies between the least and the greatest of them
-- Assumes nothing.
use mathlib.Core.Path.{◌≡◌, sym, subst}
use mathlib.Core.List.{List, [], ◌∷◌}
use mathlib.Core.Logic.{◌⊎◌, inl, inr, ⊎_elim}
use Prim.Native.Nat.{ℕ, zero, suc, ◌+◌, ◌-◌, ◌*◌, ◌/◌, ◌≤◌, ◌<◌}
use native.Mathlib.Nat.{add-mul, add-zero, mul-le-mul, mul-le-mul_right}
use native.Mathlib.Omega.{arith}
use lib.ListN.{length, get_or}
use Rattle.arithmetic.proofs.Ring.{ring}
use Rattle.arithmetic.proofs.Rounding.{RoundedDown, down_of, down_greatest}
use Rattle.arithmetic.proofs.Tests.{less_or_not, same_or_other}
use Rattle.ranges.specs.Sizes.{shift_width}
use Rattle.loading.specs.Total.{total}
use Rattle.inclining.specs.Measured.{Shift, shifts_of, unrounded_gm, gm_measured, own_gms}
use Rattle.inclining.specs.Private.Heeling.{TestInRange, ShiftInRange, ShiftsInRange}
use Rattle.inclining.specs.declared.Test.{Test}
use Rattle.inclining.proofs.Shifts.{Every, each_in_range, heeling_in_range, shift_count_is}

-- ---- the fraction
pub measured_down : (test : Test) (shifts : List Shift) → 0 < (unrounded_gm test shifts).bottom → RoundedDown (unrounded_gm test shifts).top (unrounded_gm test shifts).bottom (gm_measured test shifts)
unfolding gm_measured
measured_down test shifts some = down_of (unrounded_gm test shifts).top (unrounded_gm test shifts).bottom some

module _ (test : Test) (some : 0 < test.weight) where
  -- a shift's own fraction
  one_down : (s : Shift) → ShiftInRange s → RoundedDown (s.weight * s.distance * test.pendulum) (test.weight * s.deflection) (gm_measured test (s ∷ []))
  unfolding gm_measured unrounded_gm total
  one_down s so = simp add-zero (down_of (s.weight * s.distance * test.pendulum) (test.weight * s.deflection) (omega (arith, mul-le-mul some so.deflection_least)))

  -- top and bottom of the fraction, one shift more
  top_more : (s : Shift) (shifts : List Shift) → (unrounded_gm test (s ∷ shifts)).top ≡ s.weight * s.distance * test.pendulum + (unrounded_gm test shifts).top
  unfolding unrounded_gm total
  top_more s shifts = add-mul (s.weight * s.distance) _ test.pendulum

  bottom_more : (s : Shift) (shifts : List Shift) → (unrounded_gm test (s ∷ shifts)).bottom ≡ test.weight * s.deflection + (unrounded_gm test shifts).bottom
  unfolding unrounded_gm total
  bottom_more s shifts = simp ring (omega arith)

  pub not_under : (k : ℕ) (shifts : List Shift) → Every ShiftInRange shifts → Every (λ s. k ≤ gm_measured test (s ∷ [])) shifts → k * (unrounded_gm test shifts).bottom ≤ (unrounded_gm test shifts).top
  unfolding unrounded_gm total
  not_under k [] so all = simp ring (omega arith)
  not_under k (s ∷ shifts) so all =
      let here = (down_greatest (one_down s so.0) k).0 all.0 in
      let rest = not_under k shifts so.1 all.1 in
      simp ring (omega (arith, simp ring at here, simp ring at rest))

  pub not_over : (k : ℕ) (shifts : List Shift) → Every ShiftInRange shifts → Every (λ s. gm_measured test (s ∷ []) ≤ k) shifts → (unrounded_gm test shifts).top + length shifts ≤ (k + 1) * (unrounded_gm test shifts).bottom
  unfolding unrounded_gm total
  not_over k [] so all = simp ring (omega arith)
  not_over k (s ∷ shifts) so all =
      let here = (one_down s so.0).high in
      let most = mul-le-mul_right (test.weight * s.deflection) all.0 in
      let rest = not_over k shifts so.1 all.1 in
      simp ring (omega (arith, simp ring at here, simp ring at most, simp ring at rest))

-- ---- the first of all, in an order
module _ (Before : ℕ → ℕ → Type 0) (same : (a : ℕ) → Before a a) (either : (a b : ℕ) → Before a b ⊎ Before b a) (on : (a b c : ℕ) → Before a b → Before b c → Before a c) (f : ℕ → ℕ) where
  -- one of the first n of them
  abbrev First : ℕ → Type 0
  First n = (i : ℕ) × (i < n) × ((j : ℕ) → j < n → Before (f i) (f j))

  pub extreme : (n : ℕ) → First (suc n)
  extreme zero = (0, omega arith, λ j h. let only : 0 ≡ j = omega arith in subst (λ k. Before (f 0) (f k)) only (same (f 0)))
  extreme (suc n) =
      let so = extreme n in
      ⊎_elim
      (λ first. (so.0, omega (arith, so.1), λ j h. same_or_other j (suc n) (λ last. subst (λ k. Before (f so.0) (f k)) (sym last) first) (λ other. so.2 j (omega arith))))
      (λ last. (suc n, omega arith, λ j h. same_or_other j (suc n) (λ e. subst (λ k. Before (f (suc n)) (f k)) (sym e) (same (f (suc n)))) (λ other. on (f (suc n)) (f so.0) (f j) last (so.2 j (omega arith)))))
      (either (f so.0) (f (suc n)))

-- what holds of every GM of the table holds of each shift's own
each_own : (test : Test) (P : ℕ → Type 0) (shifts : List Shift) → ((j : ℕ) → j < length shifts → P (get_or (own_gms test shifts) j 0)) → Every (λ s. P (gm_measured test (s ∷ []))) shifts
unfolding own_gms
each_own test P [] all = _
each_own test P (s ∷ shifts) all = (all zero (omega arith), each_own test P shifts (λ j h. all (suc j) (omega arith)))

module _ (test : Test) (table : List ℕ) (so : TestInRange test) (fit : ShiftsInRange table) where
  abbrev own : ℕ → ℕ
  own i = get_or (own_gms test (shifts_of table)) i 0

  abbrev shift_count : ℕ
  shift_count = length table / shift_width

  each : Every ShiftInRange (shifts_of table)
  each = each_in_range table (omega (arith, fit.is_in_range))

  pub bottom_some : 0 < (unrounded_gm test (shifts_of table)).bottom
  unfolding unrounded_gm
  bottom_some = omega (arith, mul-le-mul so.weight_least (heeling_in_range table fit).deflection_least)

  all_own : (P : ℕ → Type 0) → ((j : ℕ) → j < shift_count → P (own j)) → Every (λ s. P (gm_measured test (s ∷ []))) (shifts_of table)
  all_own P all = each_own test P (shifts_of table) (λ j h. all j (omega (arith, shift_count_is table)))

  at_least : (k : ℕ) → ((j : ℕ) → j < shift_count → k ≤ own j) → k ≤ gm_measured test (shifts_of table)
  at_least k all =
      (down_greatest (measured_down test (shifts_of table) bottom_some) k).1
      (not_under test so.weight_least k (shifts_of table) each (all_own (λ g. k ≤ g) all))

  at_most : (k : ℕ) → ((j : ℕ) → j < shift_count → own j ≤ k) → gm_measured test (shifts_of table) ≤ k
  at_most k all =
      ⊎_elim
      (λ above.
      let more = (down_greatest (measured_down test (shifts_of table) bottom_some) (k + 1)).0 (omega arith) in
      absurd (omega (arith, not_over test so.weight_least k (shifts_of table) each (all_own (λ g. g ≤ k) all), more, shift_count_is table, fit.some)))
      (λ h. h)
      (less_or_not k (gm_measured test (shifts_of table)))

  -- so many shifts, and one of them
  abbrev last : ℕ
  last = shift_count - 1

  some_shifts : suc last ≡ shift_count
  some_shifts = omega (arith, fit.some)

  pub least_below : (i : ℕ) × (i < shift_count) × ((j : ℕ) → j < shift_count → own i ≤ own j) × (own i ≤ gm_measured test (shifts_of table))
  least_below =
      let first = extreme (λ a b. a ≤ b) (λ a. omega arith) (λ a b. ⊎_elim (λ h. inl (omega arith)) (λ h. inr h) (less_or_not a b)) (λ a b c h k. omega arith) own last in
      let all : (j : ℕ) → j < shift_count → own first.0 ≤ own j = λ j h. first.2 j (omega (arith, some_shifts)) in
      (first.0, omega (arith, first.1, some_shifts), all, at_least (own first.0) all)

  pub greatest_above : (i : ℕ) × (i < shift_count) × ((j : ℕ) → j < shift_count → own j ≤ own i) × (gm_measured test (shifts_of table) ≤ own i)
  greatest_above =
      let first = extreme (λ a b. b ≤ a) (λ a. omega arith) (λ a b. ⊎_elim (λ h. inr (omega arith)) (λ h. inl h) (less_or_not a b)) (λ a b c h k. omega arith) own last in
      let all : (j : ℕ) → j < shift_count → own j ≤ own first.0 = λ j h. first.2 j (omega (arith, some_shifts)) in
      (first.0, omega (arith, first.1, some_shifts), all, at_most (own first.0) all)
