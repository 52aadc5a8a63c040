-- The walk, slot by slot. Assumes nothing.
use mathlib.Core.Path.{ap}
use native.Mathlib.Omega.{arith}
use lib.ListN.{length}
use Rattle.rugulosca.proofs.Panels.{reading_start, reading_step, reading_end}
use Rattle.rugulosca.proofs.tallies.slots_from.Goals as goal

pub loop-i-init : goal.loop-i-init
loop-i-init c = reading_start _ _ (ap (λ t. length t.slots) c.empty-none.ensures)

pub loop-i-preserved : goal.loop-i-preserved
loop-i-preserved c = reading_step _ c.well_formed.0.1.0.1 c.loop-i.invariant (omega arith) c.slot_in.ensures

pub returns : goal.returns
returns c = reading_end _ c.well_formed.0.1.0.1 c.loop-i.invariant (omega arith)
