-- The walk, slot by slot. Assumes nothing.
use mathlib.Core.Path.{refl, ◌∙◌}
use native.Mathlib.Omega.{arith}
use Rattle.arithmetic.proofs.Crossing.{back_is}
use Rattle.tally.proofs.Listings.{held_told}
use Rattle.rugulosca.proofs.Panels.{spelling_start, spelling_step, spelling_end}
use Rattle.rugulosca.proofs.tallies.numbers_of.Goals as goal

pub loop-i-init : goal.loop-i-init
loop-i-init c = spelling_start _ _ refl

pub loop-i-preserved : goal.loop-i-preserved
loop-i-preserved c =
    let held = c.struct_told-1.given in
    spelling_step _ c.well_formed.0.1.0.1 c.loop-i.invariant (omega arith) (back_is (record { sfits = c.from.type_inv }) ∙ c.from.ensures)
    (held_told _ held)

pub returns : goal.returns
returns c = spelling_end _ c.well_formed.0.1.0.1 c.loop-i.invariant (omega arith)
