-- The step of the tally that is kept, told. Assumes nothing.
use mathlib.Core.Path.{ap₂, ◌∙◌}
use Rattle.std.proofs.Common.{rules}
use Rattle.arithmetic.proofs.Crossing.{heard}
use Rattle.tally.specs.Steps.{shifts}
use Rattle.rugulosca.specs.Panel.{keeping, tally_from}
use Rattle.rugulosca.proofs.Telling.{tells_as}
use Rattle.rugulosca.proofs.tallies.rugulosca_shift.Goals as goal

pub returns : goal.returns
returns c =
    let s = c.args in
    let before = heard (λ moment. tally_from (keeping s.slots.now s.totals.now moment)) (record { sfits = search rules }) c.tally_from-before.ensures in
    tells_as (c.shifted-stepped.ensures.answer_is ∙ ap₂ (shifts s.slot) c.place_from.ensures before) c.tell_step.ensures
