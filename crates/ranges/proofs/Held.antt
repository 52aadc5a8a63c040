-- A number of a table held to the range of its place in a record, as the code reads both.
--     as_long, held      the values of a table are as many as its numbers; what the test of number i says
--     on, here, end      the walk at number i: it is in its range, it is not, there is none
-- Assumes nothing.
use mathlib.Core.Path.{◌≡◌, sym, ap, ap₂, ◌∙◌}
use mathlib.Core.Bool.{true, false}
use mathlib.Core.List.{List, map}
use Prim.Native.Nat.{ℕ, ◌+◌, ◌%◌, ◌≤◌, ◌<◌}
use native.Mathlib.Nat.{mod-lt}
use native.Mathlib.Omega.{arith}
use lib.IntN.{ℤ, pos}
use lib.ListN.{length, get_or, drop, length-map}
use Rattle.std.specs.Prelude.{Some, None}
use Rattle.std.proofs.lemmas.List.{get_or-map}
use Rattle.ranges.specs.Fields.{Range, ◌to◌, within}
use Rattle.ranges.specs.Outside.{outside_from, first_outside}
use Rattle.ranges.specs.Bounds.{range_by, place_in}
use Rattle.ranges.specs.Numbers.{ReadsEach}
use Rattle.ranges.specs.declared.bounds.Bounds.{Bounds}
use Rattle.ranges.specs.declared.bounds.Bounds.TheVariants.{FromTo}
use Rattle.ranges.proofs.Outside.{outside_step, outside_here, outside_end, place_some, place_none}

module _ {A : Type 0} {value : A → ℤ} {values : List A → List ℤ} (reads : ReadsEach value values) (bounds : List Bounds) {section : List Range} (ranges : map range_by bounds ≡ section) (table : List A) (i : ℕ) where
  pub as_long : length (values table) ≡ length table
  as_long = ap length (reads table) ∙ length-map table value

  module _ (so_far : outside_from section i (drop i (values table)) ≡ first_outside section (values table)) where
    module _ (x : A) (is : x ≡ get_or table i x) (h : i < length table) (some : 0 < length bounds) where
      held : within (get_or section (i % length section) (1 to 0)) (get_or (values table) i (pos 0)) ≡ within (range_by (get_or bounds (i % length bounds) (FromTo 0 0))) (value x)
      held =
          ap₂ within
          (ap (λ s. get_or s (i % length s) (1 to 0)) (sym ranges) ∙ ap (λ k. get_or (map range_by bounds) (i % k) (1 to 0)) (length-map bounds range_by) ∙ get_or-map range_by bounds (i % length bounds) (FromTo 0 0) (1 to 0) (mod-lt i some))
          (ap (λ t. get_or t i (pos 0)) (reads table) ∙ get_or-map value table i x (pos 0) h ∙ ap value (sym is))

      inside : i < length (values table)
      inside = omega (arith, as_long)

      pub on : within (range_by (get_or bounds (i % length bounds) (FromTo 0 0))) (value x) ≡ true → outside_from section (i + 1) (drop (i + 1) (values table)) ≡ first_outside section (values table)
      on e = outside_step section (values table) i inside (held ∙ e) ∙ so_far

      pub here : within (range_by (get_or bounds (i % length bounds) (FromTo 0 0))) (value x) ≡ false → Some i ≡ place_in (length table) (first_outside section (values table))
      here e =
          let at : first_outside section (values table) ≡ i = sym so_far ∙ outside_here section (values table) i inside (held ∙ e) in
          sym (rw at (place_some h))

    pub end : length table ≤ i → None ≡ place_in (length table) (first_outside section (values table))
    end h =
        let at : first_outside section (values table) ≡ i = sym so_far ∙ outside_end section (values table) i (omega (arith, as_long)) in
        sym (rw at (place_none h))
