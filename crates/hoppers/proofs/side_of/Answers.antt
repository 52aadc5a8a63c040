-- The sums are those of the widths passed, and never more than the whole, which is small. Assumes nothing.
use mathlib.Core.Path.{refl, sym}
use native.Mathlib.Omega.{arith}
use Rattle.arithmetic.proofs.Ring.{pow2, pow3}
use Rattle.simpson.proofs.Sweep.{swept_none, swept_more, swept_all}
use Rattle.hoppers.proofs.Sides.{widths_most, squares_most, cubes_most}
use Rattle.hoppers.proofs.side_of.Goals as goal

pub loop-i-init : goal.loop-i-init
loop-i-init c = (swept_none, swept_none, swept_none)

-- the sums with the width at hand
pub loop-i-preserved : goal.loop-i-preserved
loop-i-preserved c =
    let u = c.multiplier-u.ensures in (
      swept_more c.loop-i.invariant.0 (omega arith) u refl,
      swept_more c.loop-i.invariant.1 (omega arith) u (sym (pow2 _)),
      swept_more c.loop-i.invariant.2 (omega arith) u (sym (pow3 _)),
    )

pub overflow_mul-widths : goal.overflow_mul-widths
overflow_mul-widths c = omega (arith, widths_most c.requires (loop-i-preserved c).0)

pub overflow_add-widths : goal.overflow_add-widths
overflow_add-widths c = omega (arith, widths_most c.requires (loop-i-preserved c).0)

pub overflow_mul-squares-in-loop-i : goal.overflow_mul-squares-in-loop-i
overflow_mul-squares-in-loop-i c = omega (arith, squares_most c.requires (loop-i-preserved c).1)

pub overflow_add-squares : goal.overflow_add-squares
overflow_add-squares c = omega (arith, squares_most c.requires (loop-i-preserved c).1)

pub overflow_mul-cubes-in-loop-i-2 : goal.overflow_mul-cubes-in-loop-i-2
overflow_mul-cubes-in-loop-i-2 c = omega (arith, cubes_most c.requires (loop-i-preserved c).2)

pub overflow_add-cubes : goal.overflow_add-cubes
overflow_add-cubes c = omega (arith, cubes_most c.requires (loop-i-preserved c).2)

pub returns : goal.returns
returns c = rw (swept_all c.loop-i.invariant.0 (omega arith), swept_all c.loop-i.invariant.1 (omega arith), swept_all c.loop-i.invariant.2 (omega arith))
