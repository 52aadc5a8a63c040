-- The front of the table is filled so far. Assumes nothing.
use mathlib.Core.Path.{sym, ◌∙◌}
use native.Mathlib.Omega.{arith}
use lib.IntN.{pos}
use Rattle.arithmetic.proofs.Parts.{stored_none, stored_more, stored_full}
use Rattle.levers.specs.Levers.{lever}
use Rattle.levers.proofs.Tabled.{levers_length, lever_at, lever_back}
use Rattle.levers.proofs.tables.Levers.gz.Goals as goal

pub loop-i-init : goal.loop-i-init
loop-i-init c = stored_none _ _

pub loop-i-preserved : goal.loop-i-preserved
loop-i-preserved c =
    let s = c.args.self.now in
    let gz = lever s.kn s.off in
    stored_more _ _ c.loop-i.invariant (omega (arith, levers_length gz)) (omega arith) (pos 0) (lever_back c.loop-i.i s.kn_in_range s.off_in_range c.difference.ensures ∙ sym (lever_at gz c.loop-i.i (omega arith)))

pub returns : goal.returns
returns c =
    let gz = lever c.args.self.now.kn c.args.self.now.off in
    stored_full _ _ c.loop-i.invariant (omega (arith, levers_length gz)) (sym (levers_length gz))
