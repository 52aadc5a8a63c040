-- The spacing is tested before it is multiplied, so that the product fits. Assumes nothing.
use mathlib.Core.Path.{◌≡◌, sym, ◌∙◌}
use mathlib.Core.Bool.{true}
use Prim.Native.Nat.{◌/◌, ◌≤◌}
use native.Mathlib.Nat.{mul-le-mul}
use native.Mathlib.Omega.{arith}
use lib.IntN.{pos}
use borrow.Author.Tests.{eqb-true}
use Rattle.hydrostatics.specs.Row.{waterline_of}
use Rattle.ranges.specs.Fields.{within, range_of, most}
use Rattle.ranges.proofs.Facts.{within_whole}
use Rattle.loading.proofs.usable.is_spaced.Goals as goal
use Rattle.loading.proofs.usable.is_spaced.Goals.{then-spacing-first, else-spacing-first}

pub overflow_mul-result : goal.overflow_mul-result
overflow_mul-result c =
    let row : waterline_of c.args.r ≤ most (range_of 1) = omega arith in
    elim c.if-spacing-first.branch [
      | then-spacing-first w ↦
          (let ranged : within (range_of 3) (pos (c.args.first.draft / 2)) ≡ true = sym w.is_within.ensures ∙ sym w.value-is ∙ c.if-is_within.true in
          omega (arith, mul-le-mul row (within_whole (range_of 3) _ ranged).1))
      | else-spacing-first w ↦ absurd (w.if-spacing-first.false (eqb-true _ _ (sym w.value-is ∙ c.if-is_within.true)))
    ]
