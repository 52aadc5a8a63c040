-- The front of the table is filled so far, and the rest is as it was. Assumes nothing.
use mathlib.Core.List.{[]}
use mathlib.Core.Path.{◌≡◌, sym, ap, subst, ◌∙◌}
use Prim.Native.Nat.{◌*◌, ◌/◌, ◌<◌}
use native.Mathlib.Omega.{arith}
use lib.ListN.{length, get_or}
use Rattle.ranges.specs.Sizes.{shift_width}
use Rattle.inclining.specs.Private.Heeling.{heeling_of, shift_at, gm_by, ShiftInRange}
use Rattle.inclining.proofs.Shifts.{shift_of_record, left_none, left_more, left_all, there_in_range, heeling_one}
use Rattle.inclining.proofs.Tried.leave_gms.Goals as goal
use Rattle.inclining.proofs.Tried.leave_gms.Goals.{In-loop-i}

pub loop-i-init : goal.loop-i-init
loop-i-init c = left_none _ _ _ c.requires.0

-- there is a shift, and it is the one at hand, in range
more : (c : In-loop-i) → c.loop-i.i < length c.args.shifts.now / shift_width
more c = omega (arith, c.loop-i-test.true, c.as_chunks.ensures.front_len)

there : (c : In-loop-i) → shift_at (get_or c.as_chunks.result.0.now c.loop-i.i []) 0 ≡ shift_at c.args.shifts.now (shift_width * c.loop-i.i)
there c = shift_of_record c.args.shifts.now c.as_chunks.ensures.front c.loop-i.i (more c)

in_range : (c : In-loop-i) → ShiftInRange (shift_at c.args.shifts.now (shift_width * c.loop-i.i))
in_range c = there_in_range _ _ _ c.requires.0 c.requires.1 c.loop-i.invariant (more c)

pub heeling_of-requires : goal.heeling_of-requires
heeling_of-requires c = subst ShiftInRange (sym (there c)) (in_range c)

pub gm-requires : goal.gm-requires
gm-requires c =
    let at = (goal.at.gm-requires c).In-loop-i in
    rw (c.heeling_of.ensures ∙ ap heeling_of (there at)) (heeling_one _ (in_range at))

pub loop-i-preserved : goal.loop-i-preserved
loop-i-preserved c =
    let at = (goal.at.loop-i-preserved c).In-loop-i in
    left_more _ _ _ c.requires.0 c.requires.1 c.loop-i.invariant (more at)
    (c.gm.ensures ∙ ap (gm_by c.args.self.test) (c.heeling_of.ensures ∙ ap heeling_of (there at)))

pub returns : goal.returns
returns c = left_all _ _ _ c.requires.0 c.requires.1 c.loop-i.invariant (omega (arith, c.loop-i-test.false, c.loop-i.auto.i-end, c.as_chunks.ensures.front_len))
