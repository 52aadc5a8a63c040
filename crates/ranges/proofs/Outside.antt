-- The walk over a table for its first number out of range.
--     outside_step, outside_here, outside_end     the walk at place i: on, ended, past the last number
--     outside_le                                  the first number outside stands in the table, or after its end
--     outside_first                               it is the one that is outside and has none before it
--     then_within, then_after                     of a table that others follow: a number outside stands in it, or further on
--     then_inside                                 where none of so many numbers is outside: none of its own, and none of those that follow
--     place_some, place_none                      the place as the code answers it, among so many numbers and after the last
--     some_place, none_place                      what such an answer tells
-- Assumes nothing.
use mathlib.Core.Path.{◌≡◌, sym, ◌∙◌}
use mathlib.Core.Bool.{true, false}
use mathlib.Core.List.{List, [], ◌∷◌}
use Prim.Native.Nat.{ℕ, zero, suc, ◌+◌, ◌%◌, ◌≤◌, ◌<◌}
use native.Mathlib.Nat.{zero-add, add-zero}
use native.Mathlib.Omega.{arith}
use borrow.Author.Tests.{ltb-true, ltb-false, lt-ltb, le-ltb}
use lib.Dec.{ltb}
use Rattle.std.specs.Prelude.{Some, None}
use Rattle.std.proofs.lemmas.Option.{none-some}
use lib.IntN.{ℤ, pos}
use lib.ListN.{length, get_or, drop, drop_of_length-le}
use Rattle.arithmetic.proofs.Choice.{chosen, if_either}
use Rattle.arithmetic.proofs.Parts.{drop_step}
use Rattle.arithmetic.proofs.Tests.{by_test}
use Rattle.ranges.specs.Fields.{Range, ◌to◌, within}
use Rattle.ranges.specs.Bounds.{place_in}
use Rattle.ranges.specs.Outside.{outside_from, first_outside, outside_then}

module _ (section : List Range) (table : List ℤ) (i : ℕ) where
  pub outside_step : i < length table → within (get_or section (i % length section) (1 to 0)) (get_or table i (pos 0)) ≡ true → outside_from section (i + 1) (drop (i + 1) table) ≡ outside_from section i (drop i table)
  unfolding outside_from
  outside_step h e = sym (rw (drop_step table i (pos 0) h, e) (simp chosen))

  pub outside_here : i < length table → within (get_or section (i % length section) (1 to 0)) (get_or table i (pos 0)) ≡ false → outside_from section i (drop i table) ≡ i
  unfolding outside_from
  outside_here h e = rw (drop_step table i (pos 0) h, e) (simp chosen)

  pub outside_end : length table ≤ i → outside_from section i (drop i table) ≡ i
  unfolding outside_from
  outside_end h = rw (drop_of_length-le table h)

outside_from_le : (section : List Range) (place : ℕ) (table : List ℤ) → outside_from section place table ≤ place + length table
unfolding outside_from
outside_from_le section place [] = omega arith
outside_from_le section place (v ∷ rest) =
    if_either (λ n. n ≤ place + suc (length rest)) _ (λ e. omega (arith, outside_from_le section (place + 1) rest)) (λ e. omega arith)

pub outside_le : (section : List Range) (table : List ℤ) → first_outside section table ≤ length table
unfolding first_outside
outside_le section table = omega (arith, outside_from_le section 0 table)

-- number i is outside, and none before it
first_from : (section : List Range) (place : ℕ) (table : List ℤ) (i : ℕ) → i < length table → within (get_or section ((place + i) % length section) (1 to 0)) (get_or table i (pos 0)) ≡ false → ((j : ℕ) → j < i → within (get_or section ((place + j) % length section) (1 to 0)) (get_or table j (pos 0)) ≡ true) → outside_from section place table ≡ place + i
unfolding outside_from
first_from section place [] i h out before = absurd (omega arith)
first_from section place (v ∷ rest) zero h out before = rw (rw add-zero at out) (simp chosen (sym (add-zero place)))
first_from section place (v ∷ rest) (suc i) h out before =
    let on : (j : ℕ) → place + suc j ≡ place + 1 + j = λ j. omega arith in
    rw (rw add-zero at (before zero (omega arith)))
    (simp chosen (first_from section (place + 1) rest i (omega arith) (rw (on i) at out) (λ j l. rw (on j) at (before (suc j) (omega arith))) ∙ sym (on i)))

pub outside_first : (section : List Range) (table : List ℤ) (i : ℕ) → i < length table → within (get_or section (i % length section) (1 to 0)) (get_or table i (pos 0)) ≡ false → ((j : ℕ) → j < i → within (get_or section (j % length section) (1 to 0)) (get_or table j (pos 0)) ≡ true) → first_outside section table ≡ i
unfolding first_outside
outside_first section table i h out before = first_from section 0 table i h (rw zero-add out) (λ j l. rw zero-add (before j l)) ∙ zero-add i

module _ (section : List Range) (table : List ℤ) (further : ℕ) where
  pub then_within : first_outside section table < length table → outside_then section table further ≡ first_outside section table
  unfolding outside_then
  then_within h = simp (lt-ltb _ _ h, chosen)

  pub then_after : length table ≤ first_outside section table → outside_then section table further ≡ length table + further
  unfolding outside_then
  then_after h = simp (le-ltb _ _ h, chosen)

  pub then_inside : (more : ℕ) → length table + more ≤ outside_then section table further → (length table ≤ first_outside section table) × (more ≤ further)
  then_inside more h =
      by_test (ltb (first_outside section table) (length table))
      (λ t. let in-it = ltb-true (first_outside section table) (length table) t in absurd (omega (arith, then_within in-it)))
      (λ t. let after-it = ltb-false (first_outside section table) (length table) t in (after-it, omega (arith, then_after after-it)))

-- ---- the place as the code answers it
module _ {count place : ℕ} where
  pub place_some : place < count → place_in count place ≡ Some place
  unfolding place_in
  place_some h = simp (lt-ltb _ _ h, chosen)

  pub place_none : count ≤ place → place_in count place ≡ None
  unfolding place_in
  place_none h = simp (le-ltb _ _ h, chosen)

  pub some_place : {i : ℕ} → place_in count place ≡ Some i → (i ≡ place) × (place < count)
  unfolding place_in
  some_place e = by_test (ltb place count)
      (λ t. let is = place_some (ltb-true place count t) in (cc, ltb-true place count t))
      (λ t. absurd (none-some _ (sym (place_none (ltb-false place count t)) ∙ e)))

  pub none_place : place_in count place ≡ None → count ≤ place
  unfolding place_in
  none_place e = by_test (ltb place count)
      (λ t. absurd (none-some _ (sym e ∙ place_some (ltb-true place count t))))
      (λ t. ltb-false place count t)
