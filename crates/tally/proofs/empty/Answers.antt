-- Every slot is a freed one. Assumes nothing.
use mathlib.Core.Path.{sym, ap}
use lib.ListN.{replicate}
use Rattle.loading.specs.declared.Totals.{Totals}
use Rattle.tally.specs.Tally.{slot_count, freed}
use Rattle.tally.specs.declared.Tally.{Tally}
use Rattle.tally.proofs.Soundness.{none_added_up}
use Rattle.tally.proofs.empty.Goals as goal

abbrev of : Totals → Tally
of totals = record { slots = replicate slot_count freed; totals = totals }

pub returns : goal.returns
returns c = ap of (sym none_added_up)
