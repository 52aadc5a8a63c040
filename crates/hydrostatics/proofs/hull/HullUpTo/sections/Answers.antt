-- What is made of each station is stored at its number. Assumes nothing.
use Prim.Native.Nat.{◌*◌, ◌≤◌}
use mathlib.Core.Path.{sym, ap, ◌∙◌}
use native.Mathlib.Omega.{arith}
use Rattle.arithmetic.proofs.Products.{powers_le}
use Rattle.arithmetic.proofs.Ring.{pow3}
use Rattle.ranges.specs.Fields.{range_of, most}
use Rattle.hydrostatics.proofs.Filling.{filling_more}
use Rattle.hydrostatics.proofs.Limits.{half_breadth_le}
use Rattle.hydrostatics.proofs.hull.HullUpTo.sections.Goals as goal
use Rattle.hydrostatics.proofs.hull.HullUpTo.sections.Goals.{After-section_at-section}

y_most : (c : After-section_at-section) → c.section_at-section.result.half_breadth ≤ most (range_of 5)
y_most c = rw c.section_at-section.ensures.half_breadth_is (half_breadth_le c.args.self.now.in_range _ _)

pub overflow_mul-cubes : goal.overflow_mul-cubes
overflow_mul-cubes c = omega (arith, powers_le (y_most c))

pub overflow_mul-cubes-in-loop-i : goal.overflow_mul-cubes-in-loop-i
overflow_mul-cubes-in-loop-i c = omega (arith, powers_le (y_most c))

pub loop-i-preserved : goal.loop-i-preserved
loop-i-preserved c =
    let l = c.loop-i.invariant in
    let section = c.section_at-section.ensures in
    let y = section.half_breadth_is in (
      filling_more l.0 (omega arith) section.area_is,
      filling_more l.1 (omega arith) section.moment_is,
      filling_more l.2 (omega arith) y,
      filling_more l.3 (omega arith) (ap (λ y. y * y * y) y ∙ sym (pow3 _)),
    )
