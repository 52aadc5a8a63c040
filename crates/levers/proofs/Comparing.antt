-- Rules by the parts of a number of either sign.
--     small_back, value_back    what a callee made of two small numbers is their difference; and of parts, what they come to
--     missed, met               a rule by parts, either way
--     met_told                  what it tells that a rule is met
--     reaches                   a rule is met just where the number is at least so much
--     area_missed, area_met     the same of an area by the parts of a sum; area_told
-- Assumes nothing.
use Prim.Native.Nat.{ℕ, ◌+◌, ◌*◌, ◌≤◌, ◌<◌}
use mathlib.Core.Bool.{true}
use mathlib.Core.Logic.{◌↔◌}
use mathlib.Core.Path.{◌≡◌, sym, ap, subst, ◌∙◌}
use native.Mathlib.Omega.{arith}
use borrow.Author.Tests.{leb-true, leb-false, le-leb, lt-leb}
use lib.Dec.{T, leb}
use lib.IntN.{ℤ, pos, ◌-ℤ◌, ◌*ℤ◌}
use lib.Signed.{le_z, ◌≤ℤ◌, le_z_yes}
use Rattle.arithmetic.specs.Signed.{nearest}
use Rattle.arithmetic.proofs.Choice.{chosen}
use Rattle.arithmetic.proofs.Crossing.{back, nearest_back}
use Rattle.arithmetic.proofs.Differences.{whole_le_z, difference_times, difference_near}
use Rattle.arithmetic.proofs.Tests.{by_test}
use Rattle.levers.specs.Criterion.{sum_unit, area_unit, at_least, area_at_least}
use Rattle.levers.specs.Private.Parts.{value}
use Rattle.levers.specs.Private.Tables.{most_sum}
use Rattle.levers.specs.declared.parts.Parts.{Parts}
use Rattle.levers.specs.declared.Rule.{Rule}
use Rattle.levers.specs.declared.Rule.TheVariants.{Met, Missed}

pub small_back : (a b : ℕ) {r : ℤ} → a ≤ most_sum → b ≤ most_sum → r ≡ nearest (pos a -ℤ pos b) → back r ≡ pos a -ℤ pos b
small_back a b h k e = nearest_back (pos a -ℤ pos b) e ∙ difference_near a b (omega (arith, h)) (omega (arith, k))

pub value_back : (p : Parts) {r : ℤ} → r ≡ nearest (value p) → back r ≡ value p
value_back p e = small_back p.whole p.off p.whole_small p.off_small e

not_both : {X : Type 0} → ◌≡◌ {A = Rule} Missed Met → X
not_both e = let z : ◌≡◌ {A = ℕ} 0 1 = cc in absurd (omega arith)

module _ (least : ℕ) {v : ℤ} (a b : ℕ) (e : v ≡ pos a -ℤ pos b) where
  test_is : le_z (pos least) v ≡ leb (least + b) (a + 0)
  test_is = ap (le_z (pos least)) e ∙ whole_le_z least a b

  pub missed : a < b + least → Missed ≡ at_least least v
  unfolding at_least
  missed h = sym (simp (test_is, lt-leb (least + b) (a + 0) (omega arith), chosen))

  pub met : b + least ≤ a → Met ≡ at_least least v
  unfolding at_least
  met h = sym (simp (test_is, le-leb (least + b) (a + 0) (omega arith), chosen))

  pub met_told : at_least least v ≡ Met → b + least ≤ a
  unfolding at_least
  met_told is =
      by_test (leb (least + b) (a + 0))
      (λ t. omega (arith, leb-true (least + b) (a + 0) t))
      (λ t. not_both (missed (omega (arith, leb-false (least + b) (a + 0) t)) ∙ is))

pub reaches : (least : ℕ) (v : ℤ) → (at_least least v ≡ Met) ↔ (pos least ≤ℤ v)
unfolding at_least
reaches least v = (
  λ is. by_test (le_z (pos least) v) (λ t. le_z_yes (subst T (sym t) tt)) (λ t. not_both (sym (simp (t, chosen)) ∙ is)),
  λ h. simp (t_true h.le, chosen),
)
  where
    t_true : T (le_z (pos least) v) → le_z (pos least) v ≡ true
    t_true t = by_test (le_z (pos least) v) (λ e. e) (λ e. absurd (subst T e t))

module _ (least : ℕ) {v : ℤ} (a b : ℕ) (e : v ≡ pos a -ℤ pos b) where
  sum_is : pos sum_unit *ℤ v ≡ pos (sum_unit * a) -ℤ pos (sum_unit * b)
  sum_is = ap (λ v. pos sum_unit *ℤ v) e ∙ difference_times a b sum_unit

  pub area_missed : sum_unit * a < sum_unit * b + area_unit * least → Missed ≡ area_at_least least v
  area_missed h = missed (area_unit * least) (sum_unit * a) (sum_unit * b) sum_is h

  pub area_met : sum_unit * b + area_unit * least ≤ sum_unit * a → Met ≡ area_at_least least v
  area_met h = met (area_unit * least) (sum_unit * a) (sum_unit * b) sum_is h

  pub area_told : area_at_least least v ≡ Met → sum_unit * b + area_unit * least ≤ sum_unit * a
  area_told is = met_told (area_unit * least) (sum_unit * a) (sum_unit * b) sum_is is
