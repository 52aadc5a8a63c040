-- The sums are those of the waterlines passed, and never more than the whole, which is small. Assumes nothing.
use Prim.Native.Nat.{◌+◌, ◌*◌}
use mathlib.Core.Path.{refl}
use native.Mathlib.Omega.{arith}
use Rattle.simpson.proofs.Sweep.{Swept, swept_none, swept_more, swept_moment, swept_all}
use Rattle.hydrostatics.specs.Private.Waterplanes.{line, last}
use Rattle.hydrostatics.proofs.Keeping.{five_same}
use Rattle.hydrostatics.proofs.Sweep.{sum_most, sz_most, sx_most}
use Rattle.hydrostatics.proofs.waterplanes.row_sums.Goals as goal
use Rattle.hydrostatics.proofs.waterplanes.row_sums.Goals.{After-multiplier-v}

pub loop-j-init : goal.loop-j-init
loop-j-init c = (swept_none, swept_none, swept_none)

-- the three sums, with this waterline's terms
next :
    (c : After-multiplier-v)
    → let lines = c.args.lines.now in
    let v = c.multiplier-v.result in
    let vq = v * (line lines c.loop-j.j).q in
    Swept (last lines) (λ j. (line lines j).q) (c.loop-j.j + 1) (c.loop-j.sum + vq)
    × Swept (last lines) (λ j. (line lines j).q * j) (c.loop-j.j + 1) (c.loop-j.sz + vq * c.loop-j.j)
    × Swept (last lines) (λ j. (line lines j).x) (c.loop-j.j + 1) (c.loop-j.sx + v * (line lines c.loop-j.j).x)
next c =
    let v = c.multiplier-v.ensures in (
      swept_more c.loop-j.invariant.0 (omega arith) v refl,
      swept_moment (λ j. (line c.args.lines.now j).q) c.loop-j.invariant.1 (omega arith) v refl,
      swept_more c.loop-j.invariant.2 (omega arith) v refl,
    )

pub overflow_mul-vq : goal.overflow_mul-vq
overflow_mul-vq c = omega (arith, sum_most c.requires (next c).0)

pub overflow_add-sum : goal.overflow_add-sum
overflow_add-sum c = omega (arith, sum_most c.requires (next c).0)

pub overflow_mul-sz : goal.overflow_mul-sz
overflow_mul-sz c = omega (arith, sz_most c.requires (next c).1)

pub overflow_add-sz : goal.overflow_add-sz
overflow_add-sz c = omega (arith, sz_most c.requires (next c).1)

pub overflow_mul-sx : goal.overflow_mul-sx
overflow_mul-sx c = omega (arith, sx_most c.requires (next c).2)

pub overflow_add-sx : goal.overflow_add-sx
overflow_add-sx c = omega (arith, sx_most c.requires (next c).2)

pub loop-j-preserved : goal.loop-j-preserved
loop-j-preserved c = next c

pub returns : goal.returns
returns c =
    let l = c.loop-j.invariant in
    five_same (swept_all l.0 (omega (arith, c.requires.some))) (swept_all l.1 (omega (arith, c.requires.some))) (swept_all l.2 (omega (arith, c.requires.some))) refl refl
