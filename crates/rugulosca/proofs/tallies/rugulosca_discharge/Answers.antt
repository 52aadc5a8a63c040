-- The step of the tally that is kept, told. Assumes nothing.
use mathlib.Core.Path.{ap, ◌∙◌}
use Rattle.std.proofs.Common.{rules}
use Rattle.arithmetic.proofs.Crossing.{heard}
use Rattle.tally.specs.Steps.{discharges}
use Rattle.rugulosca.specs.Panel.{keeping, tally_from}
use Rattle.rugulosca.proofs.Telling.{tells_as}
use Rattle.rugulosca.proofs.tallies.rugulosca_discharge.Goals as goal

pub returns : goal.returns
returns c =
    let s = c.args in
    let before = heard (λ moment. tally_from (keeping s.slots.now s.totals.now moment)) (record { sfits = search rules }) c.tally_from-before.ensures in
    tells_as (c.discharged-stepped.ensures.answer_is ∙ ap (discharges s.slot) before) c.tell_step.ensures
