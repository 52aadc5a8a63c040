-- What the tally's call promises of its answer, told. Assumes nothing.
use mathlib.Core.Path.{ap, ◌∙◌}
use Rattle.arithmetic.proofs.Crossing.{heard}
use Rattle.tally.specs.Condition.{condition_aboard}
use Rattle.rugulosca.specs.Panel.{keeping, tally_from}
use Rattle.rugulosca.proofs.Telling.{condition_as}
use Rattle.rugulosca.proofs.tallies.rugulosca_condition_aboard.Goals as goal

pub returns : goal.returns
returns c =
    let s = c.args in
    let aboard = heard (λ moment. tally_from (keeping s.slots.now s.totals.now moment)) c.ranges.transverse c.tally_from-aboard.ensures in
    condition_as (c.condition_of-answer.ensures ∙ ap (λ t. condition_aboard t s.tanks.now s.rows.now) aboard) c.tell_condition.ensures
