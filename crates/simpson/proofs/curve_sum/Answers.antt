-- Each return is one of the three answers. Assumes nothing.
use Prim.Native.Nat.{◌+◌, ◌*◌, ◌^◌, ◌≤◌}
use native.Mathlib.Omega.{arith}
use lib.ListN.{get_or}
use Rattle.std.proofs.lemmas.Grind.{common_steps}
use Rattle.simpson.proofs.Running.{running_none, running_step, too_short, too_large, summed}
use Rattle.simpson.proofs.curve_sum.Goals as goal

pub returns-then-ordinates-lt-LEAST_ORDINATES : goal.returns-then-ordinates-lt-LEAST_ORDINATES
returns-then-ordinates-lt-LEAST_ORDINATES c = too_short _ (omega arith)

pub loop-i-init : goal.loop-i-init
loop-i-init c = running_none _ (omega arith)

pub returns-in_err-sum : goal.returns-in_err-sum
returns-in_err-sum c =
    let over : 2 ^ 64 ≤ c.loop-i.sum + c.multiplier-u.result * get_or c.args.ordinates.now c.loop-i.i 0 = grind (arith, common_steps) in
    grind (arith, common_steps, too_large c.loop-i.invariant (omega arith) c.multiplier-u.ensures over)

pub loop-i-preserved : goal.loop-i-preserved
loop-i-preserved c = grind (arith, common_steps, running_step c.loop-i.invariant (omega arith) c.multiplier-u.ensures)

pub returns : goal.returns
returns c = summed c.loop-i.invariant (omega arith)
