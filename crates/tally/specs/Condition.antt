-- "GM is the condition's, from the items aboard with a row table and a tank list."
use Rattle.std.specs.Prelude.{not, List, ℕ, ℤ}
use Rattle.arithmetic.specs.Choice.{when◌then◌else◌}
use Rattle.ranges.specs.Outcome.{Outcome, refused}
use Rattle.ranges.specs.Refusals.{tally_unsound}
use Rattle.loading.specs.Condition.{condition_of}
use Rattle.loading.specs.declared.Condition.{Condition}
use Rattle.tally.specs.Tally.{aboard, table_of, sound}
use Rattle.tally.specs.declared.Tally.{Tally}

-- 22, then all that the condition tries
unfoldable pub condition_aboard : Tally → List ℤ → List ℕ → Outcome Condition
condition_aboard t tanks rows =
    when not (sound t) then refused tally_unsound 0
    else condition_of (table_of (aboard t.slots)) tanks rows
