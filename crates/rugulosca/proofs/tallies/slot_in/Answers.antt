-- Each number is the table's at its place. Assumes nothing.
use mathlib.Core.Path.{ap, ◌∙◌}
use mathlib.Core.Bool.{not}
use lib.Dec.{eqb}
use Rattle.arithmetic.proofs.Crossing.{back_is}
use Rattle.rugulosca.proofs.tallies.slot_in.Goals as goal

pub returns : goal.returns
returns c =
    let filled = ap (λ n. not (eqb n 0)) c.size_at-filled.ensures in
    let kg = back_is (record { sfits = c.number_at-kg.type_inv }) ∙ c.number_at-kg.ensures in
    let x = back_is (record { sfits = c.number_at-x.type_inv }) ∙ c.number_at-x.ensures in
    let y = back_is (record { sfits = c.number_at-y.type_inv }) ∙ c.number_at-y.ensures in
    let z = back_is (record { sfits = c.number_at-z.type_inv }) ∙ c.number_at-z.ensures in
    λ j. record { filled = filled j; item = record { kg = kg j; x = x j; y = y j; z = z j } }
