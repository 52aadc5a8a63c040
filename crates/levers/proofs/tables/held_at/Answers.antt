-- The three cases of the definition, by number for degrees. Assumes nothing.
use mathlib.Core.Logic.{⊎_elim}
use mathlib.Core.Path.{◌≡◌, ◌∙◌}
use native.Mathlib.Omega.{arith}
use Rattle.arithmetic.proofs.Tests.{less_or_not}
use Rattle.levers.specs.Sines.{degrees}
use Rattle.levers.proofs.Peak.{held_below, held_beyond, held_itself}
use Rattle.levers.proofs.tables.held_at.Goals as goal

pub returns : goal.returns
returns c =
    let peak = c.args.peak in
    ⊎_elim
    (λ below. let is : degrees c.clamp.result ≡ 15 = omega (arith, c.clamp.ensures) in is ∙ held_below (omega arith))
    (λ from_15. ⊎_elim
    (λ beyond. let is : degrees c.clamp.result ≡ 30 = omega (arith, c.clamp.ensures) in is ∙ held_beyond (omega arith))
    (λ to_30. let is : degrees c.clamp.result ≡ degrees peak = omega (arith, c.clamp.ensures) in is ∙ held_itself (omega arith) (omega arith))
    (less_or_not 6 peak))
    (less_or_not peak 3)
