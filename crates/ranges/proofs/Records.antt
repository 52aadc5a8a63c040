-- A record, and a table of records after it: no number is outside where none of either part is.
--     Inside                        a number of a table is within the range of its field
--     parts_inside, whole_inside    from the whole to its parts, and back
-- Assumes nothing.
use mathlib.Core.Path.{◌≡◌}
use mathlib.Core.Bool.{true}
use mathlib.Core.List.{List, ◌++◌}
use mathlib.Core.Logic.{◌⊎◌, inl, inr}
use Prim.Native.Nat.{ℕ, ◌+◌, ◌-◌, ◌%◌, ◌≤◌, ◌<◌}
use native.Mathlib.Nat.{add-mod_left}
use native.Mathlib.Omega.{arith}
use lib.IntN.{ℤ, pos}
use lib.ListN.{length, get_or, length-append, get_or-append}
use lib.Seq.{get_or-append-add}
use Rattle.arithmetic.proofs.Tests.{less_or_not}
use Rattle.ranges.specs.Fields.{Range, ◌to◌, within}
use Rattle.ranges.specs.Outside.{first_outside}
use Rattle.ranges.proofs.Facts.{all_within, all_inside}

-- number i of a table is within the range of its field
abbrev pub Inside : List Range → List ℤ → ℕ → Type 0
Inside section table i = within (get_or section (i % length section) (1 to 0)) (get_or table i (pos 0)) ≡ true

-- ---- a record, and a table after it
module _ (section : List Range) (first rest : List ℤ) (one : length first ≡ length section) where
  abbrev whole : List ℤ
  whole = first ++ rest

  whole_length : length whole ≡ length first + length rest
  whole_length = length-append first rest

  pub parts_inside : length whole ≤ first_outside section whole → (first_outside section first ≡ length first) × (first_outside section rest ≡ length rest)
  parts_inside h =
      let each = all_within section whole h in
      let at_first : (i : ℕ) → i < length first → Inside section first i = λ i l. rw (get_or-append first rest (pos 0) i l) at (each i (omega (arith, whole_length))) in
      let at_rest : (i : ℕ) → i < length rest → Inside section rest i =
      λ i l. rw (get_or-append-add first rest i (pos 0), one, add-mod_left) at (each (length first + i) (omega (arith, whole_length))) in
      (all_inside section first at_first, all_inside section rest at_rest)

  pub whole_inside : length first ≤ first_outside section first → length rest ≤ first_outside section rest → first_outside section whole ≡ length whole
  whole_inside f r = all_inside section whole (λ i l. each i l (less_or_not i (length first)))
    where
      at_rest : (k : ℕ) → k < length rest → Inside section whole (length first + k)
      at_rest k l = rw (get_or-append-add first rest k (pos 0), one, add-mod_left) (all_within section rest r k l)

      each : (i : ℕ) → i < length whole → (i < length first) ⊎ (length first ≤ i) → Inside section whole i
      each i l (inl h) = rw (get_or-append first rest (pos 0) i h) (all_within section first f i h)
      each i l (inr h) =
          let at : length first + (i - length first) ≡ i = omega arith in
          rw at at (at_rest (i - length first) (omega (arith, whole_length)))
