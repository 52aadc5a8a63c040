-- The front is filled so far, and the rest is as it was. Assumes nothing.
use native.Mathlib.Omega.{arith}
use lib.IntN.{pos, nat_abs}
use lib.ListN.{get_or}
use mir.Syntax.{w64}
use mir.Val.{SFits}
use borrow.Author.Rules.{rules}
use Rattle.arithmetic.proofs.Crossing.{heard}
use Rattle.offsets.proofs.Copies.{copied_next}
use Rattle.offsets.proofs.reader.copy_sizes.Goals as goal

pub loop-i-preserved : goal.loop-i-preserved
loop-i-preserved c =
    let held : SFits w64 (get_or c.args.table.now c.loop-i.i (pos 0)) = search rules in
    copied_next nat_abs (pos 0) c.args.table.now c.args.to.now c.loop-i.to c.loop-i.i _ (omega arith) (omega arith) (heard nat_abs held c.magnitude.ensures) c.loop-i.invariant
