-- A rule for an area by the parts of a sum. Assumes nothing.
use mathlib.Core.Path.{refl}
use native.Mathlib.Omega.{arith}
use Rattle.levers.proofs.Comparing.{area_missed, area_met}
use Rattle.levers.proofs.parts.Parts.area_at_least.Goals as goal

pub returns-then-self-least : goal.returns-then-self-least
returns-then-self-least c =
    let s = c.args in
    area_missed s.least s.self.whole s.self.off refl (omega arith)

pub returns-else-self-least : goal.returns-else-self-least
returns-else-self-least c =
    let s = c.args in
    area_met s.least s.self.whole s.self.off refl (omega arith)
