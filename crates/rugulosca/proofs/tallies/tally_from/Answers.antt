-- The slots by their walk; the totals as they stand. Assumes nothing.
use lib.ListN.{get_or}
use Rattle.arithmetic.proofs.Crossing.{back_is}
use Rattle.rugulosca.proofs.tallies.tally_from.Goals as goal

pub returns : goal.returns
returns c =
    let totals = c.args.totals in
    let moment = back_is c.ranges.transverse in
    λ j. record {
      slots = c.slots_from-slots.ensures j;
      totals = record { weight = get_or totals 0 0; longitudinal = get_or totals 1 0; vertical = get_or totals 2 0; transverse = moment j };
    }
