-- A rule by the parts. Assumes nothing.
use mathlib.Core.Path.{refl}
use native.Mathlib.Omega.{arith}
use Rattle.levers.proofs.Comparing.{missed, met}
use Rattle.levers.proofs.parts.Parts.at_least.Goals as goal

pub returns-then-self-least : goal.returns-then-self-least
returns-then-self-least c =
    let s = c.args in
    missed s.least s.self.whole s.self.off refl (omega arith)

pub returns-else-self-least : goal.returns-else-self-least
returns-else-self-least c =
    let s = c.args in
    met s.least s.self.whole s.self.off refl (omega arith)
