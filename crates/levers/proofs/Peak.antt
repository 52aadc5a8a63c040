-- The peak, "the first greatest GZ", and t.
--     later_greater, first_greater             of two levers the greater, by the sums of their parts
--     peak_none, peak_more                     of the first angle alone, and with one angle more
--     peak_within                              it is one of the angles
--     First, peak_first                        no GZ is greater, and every one before it is less
--     held_below, held_beyond, held_itself     t, by where the peak stands
-- Assumes nothing.
use Prim.Native.Nat.{ℕ, zero, suc, ◌+◌, ◌-◌, ◌≤◌, ◌<◌}
use mathlib.Core.Bool.{not}
use mathlib.Core.Path.{◌≡◌, refl, sym, ap, subst, ◌∙◌}
use mathlib.Core.List.{List}
use native.Mathlib.Omega.{arith}
use borrow.Author.Tests.{lt-ltb, le-ltb}
use lib.Dec.{T, ltb}
use lib.IntN.{ℤ}
use lib.ListN.{get_or}
use lib.Signed.{lt_z, ◌≤ℤ◌, ◌<ℤ◌, lt_z_yes, lt_z_no, ≤ℤ_refl}
use Rattle.arithmetic.proofs.Choice.{if_either, chosen}
use Rattle.arithmetic.proofs.Differences.{difference_lt_z, lt_le, le_lt}
use Rattle.arithmetic.proofs.Tests.{same_or_other}
use Rattle.levers.specs.Levers.{lever, peak_up_to, held}
use Rattle.levers.specs.Private.Tables.{greater_of}

module _ (kn off : List ℕ) (first i : ℕ) where
  abbrev less : ℕ
  less = get_or kn first 0 + get_or off i 0

  abbrev more : ℕ
  more = get_or kn i 0 + get_or off first 0

  test_is : lt_z (lever kn off first) (lever kn off i) ≡ ltb less more
  unfolding lever
  test_is = difference_lt_z (get_or kn first 0) (get_or off first 0) (get_or kn i 0) (get_or off i 0)

  pub later_greater : less < more → i ≡ greater_of (lever kn off) first i
  later_greater h = sym (simp (test_is, lt-ltb less more h, chosen))

  pub first_greater : more ≤ less → first ≡ greater_of (lever kn off) first i
  first_greater h = sym (simp (test_is, le-ltb less more h, chosen))

-- ---- the peak
module _ (gz : ℕ → ℤ) where
  pub peak_none : 0 ≡ peak_up_to gz 0
  unfolding peak_up_to
  peak_none = refl

  peak_step : (i : ℕ) → greater_of gz (peak_up_to gz i) (suc i) ≡ peak_up_to gz (suc i)
  unfolding peak_up_to
  peak_step i = refl

  -- with angle i, in the code's counting
  pub peak_more : (i : ℕ) → 0 < i → {first next : ℕ} → first ≡ peak_up_to gz (i - 1) → next ≡ greater_of gz first i → next ≡ peak_up_to gz (i + 1 - 1)
  peak_more i some {first} e f =
      let is : suc (i - 1) ≡ i = omega arith in
      let on : i ≡ i + 1 - 1 = omega arith in
      f ∙ ap (λ first. greater_of gz first i) e ∙ ap (greater_of gz (peak_up_to gz (i - 1))) (sym is) ∙ peak_step (i - 1) ∙ ap (peak_up_to gz) (is ∙ on)

  pub peak_within : (i : ℕ) → peak_up_to gz i ≤ i
  unfolding peak_up_to
  peak_within zero = omega arith
  peak_within (suc i) = if_either (λ p. p ≤ suc i) (lt_z (gz (peak_up_to gz i)) (gz (suc i))) (λ t. omega arith) (λ t. omega (arith, peak_within i))

  -- no lever up to a number is greater, and every one before it is less
  pub record First (n peak : ℕ) : Type 0 where
    pub greatest : (j : ℕ) → j ≤ n → gz j ≤ℤ gz peak
    pub before : (j : ℕ) → j < peak → gz j <ℤ gz peak

  -- one angle more: the peak moves to it, or stays
  module _ (n p : ℕ) (so : First n p) where
    moved : gz p <ℤ gz (suc n) → First (suc n) (suc n)
    moved less = record {
      greatest = λ j h. same_or_other j (suc n) (λ e. subst (λ j. gz j ≤ℤ gz (suc n)) (sym e) (≤ℤ_refl (gz (suc n)))) (λ other. lt_le (le_lt (so.greatest j (omega arith)) less));
      before = λ j h. le_lt (so.greatest j (omega arith)) less;
    }

    stays : gz (suc n) ≤ℤ gz p → First (suc n) p
    stays not_more = record {
      greatest = λ j h. same_or_other j (suc n) (λ e. subst (λ j. gz j ≤ℤ gz p) (sym e) not_more) (λ other. so.greatest j (omega arith));
      before = so.before;
    }

  pub peak_first : (n : ℕ) → First n (peak_up_to gz n)
  unfolding peak_up_to
  peak_first zero = record {
    greatest = λ j h. let e : 0 ≡ j = omega arith in subst (λ j. gz j ≤ℤ gz 0) e (≤ℤ_refl (gz 0));
    before = λ j h. absurd (omega arith);
  }
  peak_first (suc n) = if_either (First (suc n)) (lt_z (gz (peak_up_to gz n)) (gz (suc n))) (λ t. moved n (peak_up_to gz n) (peak_first n) (lt_z_yes (subst T (sym t) tt))) (λ t. stays n (peak_up_to gz n) (peak_first n) (lt_z_no (subst (λ t. T (not t)) (sym t) tt)))

-- ---- t
module _ {angle : ℕ} where
  pub held_below : angle < 15 → 15 ≡ held angle
  unfolding held
  held_below h = sym (simp (lt-ltb angle 15 h, chosen))

  pub held_beyond : 30 < angle → 30 ≡ held angle
  unfolding held
  held_beyond h = sym (simp (le-ltb angle 15 (omega arith), lt-ltb 30 angle h, chosen))

  pub held_itself : 15 ≤ angle → angle ≤ 30 → angle ≡ held angle
  unfolding held
  held_itself h k = sym (simp (le-ltb angle 15 h, le-ltb 30 angle k, chosen))
